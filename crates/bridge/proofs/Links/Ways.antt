-- Every link of a slot that a tree has is at the end of a way. Assumes nothing.
use Prim.Native.Nat.{ℕ, ◌+◌, ◌≤◌}
use mathlib.Core.Path.{◌≡◌, refl, ap}
use mathlib.Core.Option.{some}
use mathlib.Core.List.{List, [], ◌∷◌}
use native.Mathlib.Omega.{arith}
use native.Mathlib.Decide.{dec_le, ℕ_discrete}
use Rattle.scope.specs.Table.{word, link_at}
use Rattle.scope.specs.Tree.{Batch, Tree, leaf, node, times, same}
use Rattle.scope.specs.Sound.{Spells}
use Rattle.scope.specs.declared.side.Side.{Side}
use Rattle.scope.specs.declared.side.Side.TheVariants.{Left, Right}
use Rattle.scope.specs.declared.side.Link.{Link}
use Rattle.tree.specs.Place.{subtree}
use Rattle.tree.proofs.Firing.Place.{same_none}
use Rattle.spelling.proofs.Laws.{link-son}
use Rattle.bridge.specs.Leads.{link_along, Leads}
use Rattle.tree.proofs.Firing.Steps.{on-top}
use Rattle.tree.proofs.Firing.Sides.{times-mk}
use Rattle.bridge.proofs.Links.Looks.{look}
use Rattle.bridge.proofs.Links.Outside.{same-one}

-- the son on a side
abbrev son_of : Side → Tree → Tree → Tree
son_of Left l r = l
son_of Right l r = r

son-there : (s : Side) (d : Batch) (a b : ℕ) (l r : Tree) → subtree (s ∷ []) (node d a b l r) ≡ some (son_of s l r)
unfolding subtree
son-there Left d a b l r = refl
son-there Right d a b l r = refl

-- one step further down
further : (t : List ℕ) (l : Link) (goal : Link) (s : Side) (d : Batch) (a b : ℕ) (left right : Tree)
    → Leads t (record { holder = word t (link_at l); side = s }) (son_of s left right) goal
    → Leads t l (node d a b left right) goal
unfolding subtree link_along
further t l goal Left d a b left right w = record { way = Left ∷ w.way; tree = w.tree; there = w.there; ends = w.ends }
further t l goal Right d a b left right w = record { way = Right ∷ w.way; tree = w.tree; there = w.there; ends = w.ends }

pub leads : (t : List ℕ) (c : ℕ) (k : ℕ) (s : Side) (l : Link) (T : Tree) → Spells t c (word t (link_at l)) T
    → 1 ≤ times k T
    → Leads t l T (record { holder = k; side = s })
unfolding Spells times link_along
leads t c k s l leaf p h = absurd (omega arith)
leads t c k s l (node d a b left right) p h =
    let x = word t (link_at l) in
    let at : d.slot ≡ x = ap (λ (e : Batch). e.slot) p.holds in
    let on : (side : Side) → Link = λ side. record { holder = x; side = side } in
    elim (ℕ_discrete k x) [
      | yes e ↦ record { way = s ∷ []; tree = son_of s left right; there = son-there s d a b left right; ends = rw e refl }
      | no ne ↦
          let z : same k d.slot ≡ 0 = rw at (same_none k x ne) in
          elim (dec_le 1 (times k left)) [
            | yes i ↦ further t l _ Left d a b left right
                (leads t c k s (on Left) left (rw (link-son t (on Left) p.there) p.left) i)
            | no i ↦ further t l _ Right d a b left right
                (leads t c k s (on Right) right (rw (link-son t (on Right) p.there) p.right) (omega arith))
          ]
    ]

-- and the holder of a link at the end of a way is a slot of the tree, or holds the link where the way begins
pub leads-holder : (t : List ℕ) (c : ℕ) (way : List Side) (l : Link) (T S : Tree) → Spells t c (word t (link_at l)) T
    → subtree way T ≡ some S
    → 1 ≤ same (link_along t way l).holder l.holder + times (link_along t way l).holder T
unfolding subtree link_along
leads-holder t c [] l T S p e = omega (arith, same-one l.holder l.holder refl)
leads-holder t c (s ∷ way) l T S p e =
    on-top s T S _ e
    (λ X. Spells t c (word t (link_at l)) X
    → 1 ≤ same (link_along t (s ∷ way) l).holder l.holder + times (link_along t (s ∷ way) l).holder X)
    (λ d x near far q h.
    let a = look t c (word t (link_at l)) d x near far s h in
    let down : Link = record { holder = word t (link_at l); side = s } in
    let k = (link_along t way down).holder in
    omega (
      arith,
      leads-holder t c way down near S (rw (link-son t down a.there) a.near_son) q,
      times-mk s d x near far k,
      ap (λ (b : Batch). same k b.slot) a.holds,
    ))
    p
