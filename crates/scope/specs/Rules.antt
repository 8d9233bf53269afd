-- The guards and the actions of the eight rules, over a side (document 01, "The eight rules").
use Rattle.std.specs.Prelude.{ℕ, ◌+◌, max, Bool, not, ◌&&◌, List, [], ◌∷◌, ◌++◌, leb, ltb, eqb}
use Rattle.scope.specs.Numbers.{other}
use Rattle.scope.specs.Table.{son, register, Write}
use Rattle.scope.specs.Edits.{son_on, register_on, Edit, edit, writes}
use Rattle.scope.specs.Tree.{over}
use Rattle.scope.specs.declared.slot.Slot.{Slot}
use Rattle.scope.specs.declared.side.Side.{Side}
use Rattle.scope.specs.declared.rule.Kind.{Kind}
use Rattle.scope.specs.declared.rule.Kind.TheVariants.{Propagate, Lean, Even, Double}
use Rattle.scope.specs.declared.rule.Rule.{Rule}
use Rattle.scope.specs.declared.rule.Pair.{Pair}
use Rattle.scope.specs.declared.outcome.Nodes.{Nodes}

-- a node's registers as a rule sees them: near is on the rule's side, far on the other.
-- A rule of the left side is so the published one, and a rule of the right its mirror
abbrev pub seen : Side → Slot → Pair
seen s x = record { near = register x s; far = register x (other s) }

abbrev pub pair : ℕ → ℕ → Pair
pair n f = record { near = n; far = f }

-- localh(x): one more than the larger register
abbrev pub localh : Pair → ℕ
localh x = over x.near x.far

-- x is reliable, car(x) = 0: the register above x says localh(x)
abbrev pub reliable : ℕ → Pair → Bool
reliable above x = eqb above (localh x)

-- bal(x) is near less far. Of v it is to be at least 2; of u its sign counts
abbrev pub heavy : Pair → Bool
heavy v = leb (v.far + 2) v.near

abbrev pub leans_near : Pair → Bool
leans_near u = ltb u.far u.near

abbrev pub is_even : Pair → Bool
is_even u = eqb u.far u.near

abbrev pub leans_far : Pair → Bool
leans_far u = ltb u.near u.far

-- u is v's near son, w is u's far son; of each line's two rules the first has its near side on the left
abbrev pub guard : Kind → Pair → Pair → Pair → Bool
-- 1 LP and 2 RP: car(u) is not 0
guard Propagate v u w = not (reliable v.near u)
-- 3 RR* and 4 LR*: u reliable, bal(v) at least 2, bal(u) above 0
guard Lean v u w = reliable v.near u && heavy v && leans_near u
-- 5 RR= and 6 LR=: the same with bal(u) = 0
guard Even v u w = reliable v.near u && heavy v && is_even u
-- 7 LRR and 8 RLR: u and w reliable, bal(v) at least 2, bal(u) below 0
guard Double v u w = (reliable v.near u && reliable u.far w) && heavy v && leans_far u

-- v after a rotation takes u's far register as its near one
abbrev pub turned_v : Pair → Pair → Pair
turned_v v u = pair u.far v.far

-- after a double rotation u takes w's near register as its far one, and v takes w's far one as its near one
abbrev pub doubled_u : Pair → Pair → Pair
doubled_u u w = pair u.near w.near

abbrev pub doubled_v : Pair → Pair → Pair
doubled_v v w = pair w.far v.far

-- the highest of the heights that an action works out anew; the others are copies of registers
abbrev pub highest : Kind → Pair → Pair → Pair → ℕ
highest Propagate v u w = localh u
highest Lean v u w = localh (turned_v v u)
highest Even v u w = localh (turned_v v u)
highest Double v u w = max (localh (doubled_u u w)) (localh (doubled_v v w))

-- the parts that an action writes, in their order, over v, u and w as they stood
module _ (s : Side) (n : Nodes) where
  abbrev v : Pair
  v = seen s n.sv

  abbrev u : Pair
  u = seen s n.su

  abbrev w : Pair
  w = seen s n.sw

  -- a slot in the link that leads to v
  abbrev pub at_link : ℕ → Edit
  at_link k = edit n.link.holder (son_on n.link.side) k

  -- v's near register takes localh(u)
  abbrev pub propagated : List Edit
  propagated = edit n.v (register_on s) (localh u) ∷ []

  -- u takes v's link, v becomes u's far son, and u's old far son v's near one
  abbrev pub rotated_links : List Edit
  rotated_links = at_link n.u ∷ edit n.u (son_on (other s)) n.v ∷ edit n.v (son_on s) (son n.su (other s)) ∷ []

  -- v's near register takes u's far one, and u's far register the new localh(v)
  abbrev pub rotated_heights : List Edit
  rotated_heights = edit n.v (register_on s) u.far ∷ edit n.u (register_on (other s)) (localh (turned_v v u)) ∷ []

  abbrev pub rotated : List Edit
  rotated = rotated_links ++ rotated_heights

  -- w takes v's link, with u near and v far
  abbrev pub twice_top : List Edit
  twice_top = at_link n.w ∷ edit n.w (son_on s) n.u ∷ edit n.w (son_on (other s)) n.v ∷ []

  -- w's old sons go to u's far side and v's near side
  abbrev pub twice_sons : List Edit
  twice_sons = edit n.u (son_on (other s)) (son n.sw s) ∷ edit n.v (son_on s) (son n.sw (other s)) ∷ []

  -- w's registers go with them
  abbrev pub twice_copied : List Edit
  twice_copied = edit n.u (register_on (other s)) w.near ∷ edit n.v (register_on s) w.far ∷ []

  -- and become the new localh(u) and localh(v)
  abbrev pub twice_heights : List Edit
  twice_heights =
      edit n.w (register_on s) (localh (doubled_u u w)) ∷ edit n.w (register_on (other s)) (localh (doubled_v v w)) ∷ []

  abbrev pub rotated_twice : List Edit
  rotated_twice = twice_top ++ (twice_sons ++ (twice_copied ++ twice_heights))

abbrev pub action : Kind → Side → Nodes → List Edit
-- 1 LP and 2 RP
action Propagate s n = propagated s n
-- 3 RR* and 4 LR*
action Lean s n = rotated s n
-- 5 RR= and 6 LR=
action Even s n = rotated s n
-- 7 LRR and 8 RLR
action Double s n = rotated_twice s n

-- a rule's guard and action at its nodes
unfoldable pub guard_at : Rule → Nodes → Bool
guard_at r n = guard r.kind (seen r.side n.sv) (seen r.side n.su) (seen r.side n.sw)

unfoldable pub highest_at : Rule → Nodes → ℕ
highest_at r n = highest r.kind (seen r.side n.sv) (seen r.side n.su) (seen r.side n.sw)

unfoldable pub action_at : Rule → Nodes → List Write
action_at r n = writes (action r.kind r.side n)
