-- What each sum is at a slot, from those of its two sides; and how large it can be. Assumes nothing.
use Prim.Native.Nat.{ℕ, ◌+◌, ◌*◌, ◌≤◌, max}
use mathlib.Core.Path.{◌≡◌, sym}
use mathlib.Core.Bool.{Bool, true, false, not, cond, ◌&&◌}
use mathlib.Core.List.{List}
use native.Mathlib.Omega.{arith}
use lib.Dec.{leb, eqb}
use borrow.Author.Tests.{leb-true}
use Rattle.scope.proofs.Bools.{and_l, and_r}
use Rattle.scope.specs.Numbers.{most_slots}
use Rattle.scope.specs.Table.{slot_at}
use Rattle.scope.specs.Fit.{state_ok, pieces_ok, fit_slot}
use Rattle.scope.specs.Tree.{Tree, leaf, node, size, true_height}
use Rattle.scope.specs.Sound.{Spells}
use Rattle.scope.specs.Sums.{total_of}
use Rattle.scope.specs.declared.slot.Slot.{Slot}
use Rattle.tree.proofs.Rest.Height.{height-size}
use Rattle.fork.specs.declared.Fork.{Fork}
use Rattle.fork.specs.Hangs.{Forked, tree_at}
use Rattle.total.specs.Adding.{counted_of}

-- a fit slot's pieces
pieces-most : (c : ℕ) (s : Slot) → fit_slot c s ≡ true → s.pieces ≤ 1000000
unfolding fit_slot pieces_ok
pieces-most c s e =
    leb-true _ _ (and_r (not (eqb s.pieces 0)) _
    (and_r (state_ok s.state && not (eqb s.key 0)) _ (and_l _ _ (and_l _ _ (and_l _ _ e)))))

-- what counts of a record is at most its pieces
own-most : (b : Bool) (p : ℕ) → cond b p 0 ≤ p
own-most true p = omega arith
own-most false p = omega arith

-- a total is at most a million for each slot
total-most : (t : List ℕ) (c K x : ℕ) (T : Tree) → Spells t c x T → total_of K T ≤ 1000000 * size T
unfolding Spells total_of size
total-most t c K x leaf p = omega arith
total-most t c K x (node d a b l r) p =
    let most : d.pieces ≤ 1000000 = rw p.holds (pieces-most c (slot_at t x) p.fit) in
    omega (
      arith,
      own-most (leb d.key K) d.pieces,
      total-most t c K (slot_at t x).left l p.left,
      total-most t c K (slot_at t x).right r p.right,
    )

module _ {t : List ℕ} {more x : ℕ} {f : Fork} (d : Forked t more x f) {a b : ℕ} where
  module _ (ea : a ≡ true_height d.on_left.tree) (eb : b ≡ true_height d.on_right.tree) where
    pub heights-few : (a ≤ most_slots) × (b ≤ most_slots)
    heights-few = omega (arith, height-size d.on_left.tree, height-size d.on_right.tree, d.few, d.most)

    pub height-here : {r : ℕ} → r ≡ 1 + max a b → r ≡ true_height (tree_at d)
    unfolding true_height
    height-here e = omega arith

  -- the pieces on the two sides of a slot, and at the slot, which counts `own`
  module _ (K : ℕ) (ea : a ≡ total_of K d.on_left.tree) (eb : b ≡ total_of K d.on_right.tree) where
    pub sides-few : a + b ≤ 1000000 * more
    sides-few =
        let l = d.on_left in
        let r = d.on_right in
        omega (
          arith,
          d.few,
          total-most t l.slots K f.left l.tree l.reached,
          total-most t r.slots K f.right r.tree r.reached,
        )

    module _ {own : ℕ} (eo : own ≡ counted_of K f.slot.key f.slot.pieces) where
      pub own-few : own ≤ 1000000
      own-few = omega (arith, eo, own-most (leb f.slot.key K) f.slot.pieces, pieces-most d.c f.slot d.fit)

      pub here-few : a + b + own ≤ 1000000 * more + 1000000
      here-few = omega (arith, sides-few, own-few)

      pub pieces-here : {r : ℕ} → r ≡ a + b + own → r ≡ total_of K (tree_at d)
      unfolding total_of
      pieces-here e =
          let is : own ≡ counted_of K (slot_at t x).key (slot_at t x).pieces = rw (sym d.slot) eo in
          omega (arith, is)
