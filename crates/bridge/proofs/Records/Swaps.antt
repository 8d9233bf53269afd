-- A node with two sons takes the leftmost record on its right, which is lifted out there. Assumes nothing.
use Prim.Native.Nat.{ℕ, ◌+◌, ◌≤◌}
use mathlib.Core.Path.{◌≡◌, refl, sym, ap, subst}
use mathlib.Core.List.{List}
use native.Mathlib.Omega.{arith}
use Rattle.scope.specs.Table.{word, slot_at, with_slot, link_at}
use Rattle.scope.specs.Table.{zero_slot}
use Rattle.scope.specs.Tree.{Batch, Tree, node, times, same}
use Rattle.scope.specs.Sound.{Spells}
use Rattle.scope.specs.Rules.{pair}
use Rattle.scope.specs.Drop.{with_record_of, lifted, replaced}
use Rattle.scope.specs.declared.side.Side.TheVariants.{Right}
use Rattle.scope.specs.declared.side.Link.{Link}
use Rattle.scope.specs.declared.slot.Slot.{Slot}
use Rattle.spelling.proofs.Laws.{fit-right}
use Rattle.bridge.specs.Below.{Hangs, ChangedBelow, Cut}
use Rattle.tree.specs.Seek.{beside}
use Rattle.tree.specs.Without.{least, least_link, without_least, in_slot}
use Rattle.bridge.proofs.Links.Outside.{same-one}
use Rattle.spelling.proofs.Wrote.{slot-there}
use Rattle.bridge.proofs.Links.Above.{hangs-down, above-cut, below-cut}
use Rattle.tree.proofs.Keys.Lowest.{least-times}
use Rattle.bridge.proofs.Records.Amends.{top-slot, here-fit, record-ok, record-below}
use Rattle.bridge.proofs.Records.Relinks.{lifted-blank, least-cut}
use Rattle.bridge.proofs.Links.Follows.{hangs-after, below_then, LeastStands, least-stands}

-- with two sons: the leftmost record on the right goes into the slot, and is lifted out of its own
module _ {t : List ℕ} {c : ℕ} (l : Link) (d : Batch) (a b : ℕ) (L : Tree) (g : Batch) (u v : ℕ) (p q : Tree)
    (h : Hangs t c l (node d a b L (node g u v p q))) where
  abbrev R : Tree
  R = node g u v p q

  abbrev R' : Tree
  R' = without_least g u v p q

  abbrev m : Batch
  m = least g p

  abbrev k : ℕ
  k = m.slot

  abbrev x : ℕ
  x = word t (link_at l)

  abbrev on : ℕ → Link
  on j = record { holder = j; side = Right }

  right : Spells t c (slot_at t x).right R
  unfolding Spells
  right = h.spells.right

  there : 1 ≤ x
  unfolding Spells
  there = h.spells.there

  stands : LeastStands t c m
  stands = least-stands t c (slot_at t x).right g u v p q (fit-right c (slot_at t x) (here-fit l d a b L R h)).0 right

  -- the record is written
  abbrev y : Slot
  y = with_record_of (slot_at t x) (slot_at t k)

  abbrev t₀ : List ℕ
  t₀ = with_slot t x y

  total : (j : ℕ) → times j (node d a b L R) ≡ same j x + (times j L + (same j k + times j R'))
  unfolding times
  total j = rw (top-slot l d a b L R h) (omega (arith, least-times j g u v p q))

  apart : k ≡ x → ⊥
  apart e = omega (arith, total k, h.once k, same-one k x e, same-one k k refl)

  moved : in_slot x m
      ≡ record { slot = x; key = (slot_at t k).key; pieces = (slot_at t k).pieces; state = (slot_at t k).state }
  moved = ap (in_slot x) stands.holds

  first : ChangedBelow t t₀ c l (node d a b L R) (node (in_slot x m) a b L R)
  first = rw moved (record-below l d a b L R h (slot_at t k) (record-ok c (slot_at t k) stands.fit))

  keeps : (j : ℕ) → times j (node (in_slot x m) a b L R) ≡ times j (node d a b L R)
  unfolding times
  keeps j = rw (top-slot l d a b L R h) refl

  h₀ : Hangs t₀ c l (node (in_slot x m) a b L R)
  h₀ = hangs-after first keeps h

  -- the leftmost goes
  abbrev t₁ : List ℕ
  t₁ = replaced t x k (least_link (on x) g p)

  same-least : slot_at t₀ k ≡ slot_at t k
  same-least = slot-there h.sized x y there h.most k stands.first apart

  least-goes : Cut t₀ t₁ c (on (word t₀ (link_at l))) R R'
  least-goes =
      let is : x ≡ word t₀ (link_at l) = top-slot l (in_slot x m) a b L R h₀ in
      let hangs : Hangs t₀ c (on x) R
      = subst (λ (j : ℕ). Hangs t₀ c (on j) R) (sym is) (hangs-down l Right (in_slot x m) (pair b a) R L h₀) in
      let cut : Cut t₀ (lifted t₀ k (least_link (on x) g p) (slot_at t₀ k).right) c (on x) R R'
      = least-cut (on x) g u v p q hangs in
      subst (λ (j : ℕ). Cut t₀ t₁ c (on j) R R') is
      (subst (λ (z : Slot). Cut t₀ (lifted t₀ k (least_link (on x) g p) z.right) c (on x) R R') same-least cut)

  second : ChangedBelow t₀ t₁ c l (node (in_slot x m) a b L R) (node (in_slot x m) a (beside b R') L R')
  second = above-cut l Right (in_slot x m) (pair b a) R L h₀ R' least-goes

  swapped : ChangedBelow t t₁ c l (node d a b L R) (node (in_slot x m) a (beside b R') L R')
  swapped = below_then first keeps second

  -- slot by slot
  abbrev after : ℕ → List ℕ
  after j = replaced t j k (least_link (on j) g p)

  pub swap-cut : Cut t (after d.slot) c l (node d a b L R) (node (in_slot d.slot m) a (beside b R') L R')
  swap-cut =
      subst (λ (j : ℕ). Cut t (after j) c l (node d a b L R) (node (in_slot j m) a (beside b R') L R'))
      (sym (top-slot l d a b L R h)) (below-cut swapped)

  pub swap-blank : slot_at (after d.slot) k ≡ zero_slot
  swap-blank =
      subst (λ (j : ℕ). slot_at (after j) k ≡ zero_slot) (sym (top-slot l d a b L R h))
      (lifted-blank k (least_link (on x) g p) (slot_at t k).right first.sized stands.first stands.most)
