-- What the worth is at most, by the largest carry and the largest balance (document 01, "The worth"). Assumes nothing.
use Prim.Native.Nat.{ℕ, suc, ◌+◌, ◌*◌, ◌-◌, ◌≤◌}
use mathlib.Core.Path.{◌≡◌}
use native.Mathlib.Omega.{arith}
use native.Mathlib.Decide.{dec_le}
use native.Mathlib.Nat.{mul-le-mul}
use Rattle.scope.specs.Tree.{Batch, Tree, leaf, node, size, over}
use Rattle.scope.specs.Worth.{gap, worth_of, carry_of, largest_carry, largest_balance}
use Rattle.tree.specs.Weight.{tilt, carry, top_height, under}
use Rattle.tree.proofs.Worth.Weight.{worth-under}

carry-most : (o above h C n : ℕ) → gap above h ≤ C → o ≤ n → carry o above h ≤ C * (n + 1)
unfolding carry
carry-most o above h C n c le =
    elim (dec_le above h) [
      | yes up ↦
          let z : above - h ≡ 0 = omega arith in
          rw z (omega (arith, mul-le-mul le (let x : h - above ≤ C = omega arith in x)))
      | no down ↦ let z : h - above ≡ 0 = omega arith in rw z (omega arith)
    ]

tilt-most : (a b B : ℕ) → gap a b ≤ B → tilt a b ≤ 3 * B
unfolding tilt
tilt-most a b B h = omega arith

own : (T : Tree) → carry_of (top_height T) T ≤ largest_carry T
unfolding carry_of top_height
own leaf = omega arith
own (node d a b l r) = omega arith

module _ (d : Batch) (a b : ℕ) (l r : Tree) where
  carries : (C : ℕ) → largest_carry (node d a b l r) ≤ C
      → (carry_of a l ≤ C) × (carry_of b r ≤ C) × (largest_carry l ≤ C) × (largest_carry r ≤ C)
  unfolding largest_carry
  carries C h = omega arith

  balances : (B : ℕ) → largest_balance (node d a b l r) ≤ B
      → (tilt a b ≤ 3 * B) × (largest_balance l ≤ B) × (largest_balance r ≤ B)
  unfolding largest_balance
  balances B h = (tilt-most a b B (omega arith), omega arith, omega arith)

-- every node of n weighs at most K
module _ (n C B K : ℕ) (most : 6 * (C * (n + 1)) + 3 * B ≤ K) where
  under-most : (T : Tree) (o above : ℕ) → n ≡ o + size T → carry_of above T ≤ C → largest_carry T ≤ C
      → largest_balance T ≤ B → under T o above ≤ size T * K
  unfolding under size carry_of
  under-most leaf o above e c m k = omega arith
  under-most (node d a b l r) o above e c m k =
      let f = carries d a b l r C m in
      let g = balances d a b l r B k in
      omega (
        arith,
        under-most l (o + suc (size r)) a (omega arith) f.0 f.2 g.1,
        under-most r (o + suc (size l)) b (omega arith) f.1 f.3 g.2,
        carry-most o above (over a b) C n c (omega arith),
      )

pub worth-bound : (T : Tree)
    → worth_of T ≤ 6 * largest_carry T * size T * (size T + 1) + 3 * largest_balance T * size T
worth-bound T =
    let K : ℕ = 6 * (largest_carry T * (size T + 1)) + 3 * largest_balance T in
    omega (
      arith,
      worth-under T,
      under-most (size T) (largest_carry T) (largest_balance T) K (omega arith) T 0 (top_height T)
          (omega arith) (own T) (omega arith) (omega arith),
    )
