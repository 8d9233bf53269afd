-- Another record in a slot, its links kept: what the words then spell. Assumes nothing.
use Prim.Native.Nat.{ℕ, ◌+◌, ◌≤◌}
use mathlib.Core.Path.{◌≡◌, refl, sym, ◌∙◌, ap, subst}
use mathlib.Core.Bool.{Bool, true, not, ◌&&◌}
use mathlib.Core.List.{List}
use native.Mathlib.Omega.{arith}
use lib.Dec.{eqb}
use Rattle.scope.proofs.Bools.{and_l, and_r}
use Rattle.scope.specs.Table.{word, slot_at, with_slot, link_at}
use Rattle.scope.specs.Fit.{state_ok, pieces_ok, link_ok, tail_fits, fit_slot, record_ok}
use Rattle.scope.specs.Tree.{Batch, Tree, node, times, same}
use Rattle.scope.specs.Sound.{Spells}
use Rattle.scope.specs.Amend.{with_pieces}
use Rattle.scope.specs.Drop.{with_record_of}
use Rattle.scope.specs.declared.slot.Slot.{Slot}
use Rattle.scope.specs.declared.side.Link.{Link}
use Rattle.spelling.proofs.Frame.{frame}
use Rattle.bridge.specs.Below.{Hangs, ChangedBelow}
use Rattle.tree.specs.Seek.{amend_top}
use Rattle.bridge.proofs.Links.Outside.{same-one, first_slot, steady, steady-root}
use Rattle.spelling.proofs.Wrote.{slot-there, slot-head, slot-sized}
use Rattle.spelling.proofs.Slots.{slot-here}

-- a fit slot holds a record in range, and stays fit with another one
module _ (c : ℕ) (x : Slot) (e : fit_slot c x ≡ true) where
  abbrev in_range : Bool
  in_range = state_ok x.state && not (eqb x.key 0) && pieces_ok x.pieces

  abbrev left_ok : Bool
  left_ok = link_ok c x.left x.lefth

  abbrev right_ok : Bool
  right_ok = link_ok c x.right x.righth

  links : (in_range && left_ok && right_ok) ≡ true
  unfolding fit_slot
  links = and_l _ (tail_fits x) e

  pub record-ok : record_ok x.key x.pieces x.state ≡ true
  unfolding record_ok
  record-ok =
      let r = and_l in_range left_ok (and_l (in_range && left_ok) right_ok links) in
      let q = and_l (state_ok x.state && not (eqb x.key 0)) (pieces_ok x.pieces) r in
      simp (
        and_l (state_ok x.state) (not (eqb x.key 0)) q,
        and_r (state_ok x.state) (not (eqb x.key 0)) q,
        and_r (state_ok x.state && not (eqb x.key 0)) (pieces_ok x.pieces) r,
      )

  pub fit-record : (from : Slot) → record_ok from.key from.pieces from.state ≡ true
      → fit_slot c (with_record_of x from) ≡ true
  unfolding fit_slot record_ok
  fit-record from r =
      let some_key = not (eqb from.key 0) in
      simp (
        and_r (some_key && pieces_ok from.pieces) (state_ok from.state) r,
        and_l some_key (pieces_ok from.pieces) (and_l _ _ r),
        and_r some_key (pieces_ok from.pieces) (and_l _ _ r),
        and_r in_range left_ok (and_l (in_range && left_ok) right_ok links),
        and_r (in_range && left_ok) right_ok links,
        and_r (in_range && left_ok && right_ok) (tail_fits x) e,
      )

  other_key : (key pieces state : ℕ) → record_ok key pieces state ≡ true → record_ok x.key pieces state ≡ true
  unfolding record_ok
  other_key key pieces state r =
      let q = record-ok in
      simp (
        and_l (not (eqb x.key 0)) (pieces_ok x.pieces) (and_l _ (state_ok x.state) q),
        and_r (not (eqb key 0)) (pieces_ok pieces) (and_l _ _ r),
        and_r (not (eqb key 0) && pieces_ok pieces) (state_ok state) r,
      )

-- another record in the slot, at the link where it hangs
module _ {t : List ℕ} {c : ℕ} (l : Link) (d : Batch) (a b : ℕ) (left right : Tree)
    (h : Hangs t c l (node d a b left right)) where
  abbrev x : ℕ
  x = word t (link_at l)

  there : 1 ≤ x
  unfolding Spells
  there = h.spells.there

  pub top-slot : d.slot ≡ x
  unfolding Spells
  top-slot = ap (λ (e : Batch). e.slot) h.spells.holds

  total : (k : ℕ) → times k (node d a b left right) ≡ same k x + (times k left + times k right)
  unfolding times
  total k = rw top-slot refl

  pub here-fit : fit_slot c (slot_at t x) ≡ true
  unfolding Spells
  here-fit = h.spells.fit

  module _ (from : Slot) (ok : record_ok from.key from.pieces from.state ≡ true) where
    abbrev y : Slot
    y = with_record_of (slot_at t x) from

    abbrev t' : List ℕ
    t' = with_slot t x y

    abbrev new : Batch
    new = record { slot = x; key = from.key; pieces = from.pieces; state = from.state }

    others : (k : ℕ) → 1 ≤ k → (k ≡ x → ⊥) → slot_at t' k ≡ slot_at t k
    others k i ne = slot-there h.sized x y there h.most k i ne

    son-stays : (z : ℕ) (S : Tree) → ((k : ℕ) → 1 ≤ times k S → k ≡ x → ⊥) → Spells t c z S → Spells t' c z S
    son-stays z S away p = frame t t' c z S (λ k i. others k (first_slot t c z S p k i) (away k i)) p

    record-spells : Spells t' c x (node new a b left right)
    unfolding Spells
    record-spells =
        let e = slot-here h.sized x y there h.most in
        let p = h.spells in
        record {
          there = there;
          fit = rw e (fit-record c (slot_at t x) p.fit from ok);
          holds = rw e refl;
          lefth = rw e p.lefth;
          righth = rw e p.righth;
          left = rw e (son-stays (slot_at t x).left left (λ k i q. omega (arith, total k, h.once k, same-one k x q)) p.left);
          right = rw e (son-stays (slot_at t x).right right (λ k i q. omega (arith, total k, h.once k, same-one k x q)) p.right);
        }

    pub record-below : ChangedBelow t t' c l (node d a b left right) (node new a b left right)
    record-below =
        record {
          sized = slot-sized h.sized x y there h.most;
          top = x;
          first = there;
          most = h.most;
          spells = record-spells;
          slots = λ k i z. others k i (λ q. omega (arith, total k, same-one k x q)) ∙ steady t l k i;
          root = slot-head h.sized x y there h.most 0 (omega arith) ∙ steady-root t l;
          head = λ i j k. slot-head h.sized x y there h.most i k;
        }

  -- other pieces and another state
  pub amend-below : (key pieces state : ℕ) → record_ok key pieces state ≡ true
      → ChangedBelow t (with_slot t x (with_pieces (slot_at t x) pieces state)) c l (node d a b left right)
      (amend_top pieces state (node d a b left right))
  unfolding amend_top Spells
  amend-below key pieces state ok =
      subst (λ (e : Batch). ChangedBelow t (with_slot t x (with_pieces (slot_at t x) pieces state)) c l (node d a b left right)
      (node (record { slot = e.slot; key = e.key; pieces = pieces; state = state }) a b left right))
      (sym h.spells.holds)
      (record-below (with_pieces (slot_at t x) pieces state) (other_key c (slot_at t x) here-fit key pieces state ok))
