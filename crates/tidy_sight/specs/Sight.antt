-- What is seen on a side of a slot, and the test of a rule by it. Assumes nothing: these are definitions.
use Rattle.std.specs.Prelude.{ℕ, ◌≡◌, Bool, true, false, cond, not, ◌&&◌, List, leb, eqb}
use Rattle.scope.specs.Numbers.{other, root_link, most_height}
use Rattle.scope.specs.Table.{slot_at, son}
use Rattle.scope.specs.Rules.{seen, guard, highest}
use Rattle.scope.specs.Fire.{has_third}
use Rattle.scope.specs.Tidy.{nodes_at, present}
use Rattle.scope.specs.declared.slot.Slot.{Slot}
use Rattle.scope.specs.declared.side.Side.{Side}
use Rattle.scope.specs.declared.side.Side.TheVariants.{Left, Right}
use Rattle.scope.specs.declared.rule.Kind.{Kind}
use Rattle.scope.specs.declared.rule.Pair.{Pair}
use Rattle.scope.specs.declared.rule.Rule.{Rule}
use Rattle.spelling.specs.Ready.{Sized}
use Rattle.tidy_sight.specs.MayBeDue.{names}
use Rattle.tidy_sight.specs.declared.sight.Sight.{Sight}

-- on side s of a slot x: its registers, and those and the other son of the son that is there
unfoldable pub sight_of : List ℕ → ℕ → Slot → Side → Sight
sight_of t c x s =
    let y = slot_at t (son x s) in
    cond (not (eqb x.state 0) && names c (son x s))
    (record { there = true; v = seen s x; u = seen s y; w = son y (other s) })
    (record { there = false; v = seen s x; u = seen s x; w = 0 })

abbrev pub on_side : Side → Sight → Sight → Sight
on_side Left left right = left
on_side Right left right = right

-- the guard holds, and no height above the limit would be written
abbrev pub allowed : Kind → Pair → Pair → Pair → Bool
allowed k v u w = guard k v u w && leb (highest k v u w) most_height

-- a rule is due by what is seen on its side
unfoldable pub due_seen : List ℕ → ℕ → Rule → Sight → Bool
due_seen t c r x =
    cond x.there
    (cond (has_third r.kind)
    (cond (names c x.w) (allowed r.kind x.v x.u (seen r.side (slot_at t x.w))) false)
    (allowed r.kind x.v x.u x.u))
    false

-- x is slot v, and all nodes of a rule there are slots of the table
pub record Present (t : List ℕ) (c : ℕ) (r : Rule) (v : ℕ) (x : Slot) : Type 0 where
  pub sized : Sized t c
  pub is : x ≡ slot_at t v
  pub there : present c (nodes_at t r root_link v) ≡ true
