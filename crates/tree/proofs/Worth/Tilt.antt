-- The arithmetic of a firing: how the weights of balances and carries move. Assumes nothing.
use Prim.Native.Nat.{ℕ, suc, ◌+◌, ◌*◌, ◌-◌, ◌≤◌, ◌<◌}
use mathlib.Core.Path.{◌≡◌, refl}
use mathlib.Core.Logic.{◌≢◌}
use native.Mathlib.Omega.{arith}
use native.Mathlib.Numerals.{add-one}
use native.Mathlib.Decide.{dec_le, dec_lt}
use native.Mathlib.Nat.{mul-le-mul_left}
use Rattle.scope.specs.Tree.{over}
use Rattle.tree.specs.Weight.{tilt, carry}
use Rattle.tree.specs.Variant.{imbalance, excess}
use Rattle.tree.proofs.Worth.Rotate.{Grows, lean, double}
use Rattle.tree.proofs.Worth.Apart.{even-apart, even-excess}

-- what a balance weighs: exactly, at most, and how it moves. `tilt` stays shut elsewhere, and is an atom to omega
pub tilt-sym : (a b : ℕ) → tilt a b ≡ tilt b a
unfolding tilt
tilt-sym a b = omega arith

pub tilt-gt : (a b : ℕ) → b < a → tilt a b + (3 * b + 1) ≡ 3 * a
unfolding tilt
tilt-gt a b h = omega arith

pub tilt-ub : (a b : ℕ) → b ≤ a → tilt a b + 3 * b ≤ 3 * a
unfolding tilt
tilt-ub a b h = omega arith

pub tilt-suc : (a b : ℕ) → tilt (suc a) (suc b) ≡ tilt a b
unfolding tilt
tilt-suc a b = omega arith

pub tilt-mono : (a b c : ℕ) → c ≤ b → b ≤ a → tilt b c ≤ tilt a c
unfolding tilt
tilt-mono a b c h k = omega arith

pub tilt-up : (a b d : ℕ) → tilt (a + d) b ≤ tilt a b + 3 * d
unfolding tilt
tilt-up a b d = omega arith

pub tilt-down : (a b d : ℕ) → tilt a b ≤ tilt (a + d) b + 3 * d
unfolding tilt
tilt-down a b d = omega arith

-- what a carry weighs
pub carry-up : (o above h d : ℕ) → carry o above (h + d) ≤ carry o above h + o * d
unfolding carry
carry-up o above h d =
    omega (arith, mul-le-mul_left o (let x : (h + d) - above ≤ (h - above) + d = omega arith in x))

pub carry-down : (o above h d : ℕ) → carry o above h ≤ carry o above (h + d) + d
unfolding carry
carry-down o above h d = omega (arith, mul-le-mul_left o (let x : h - above ≤ (h + d) - above = omega arith in x))

-- the rotations: a and r are v's registers, p and q u's, x and y w's
grows : Grows tilt 3 1
grows = record { even = tilt-sym; next = tilt-suc; is = tilt-gt; most = tilt-ub; less = tilt-mono }

pub lean-tilt : (a p q r : ℕ) → a ≡ suc p → q < p → r < p → 7 + (tilt q r + tilt p (over q r)) ≤ tilt p q + tilt a r
lean-tilt = lean tilt 3 1 7 grows refl

pub double-tilt : (a p q r x y : ℕ) → a ≡ suc q → q ≡ over x y → p < q → r < q
    → 7 + (tilt p x + (tilt y r + tilt (over p x) (over y r))) ≤ tilt x y + (tilt p q + tilt a r)
double-tilt = double tilt 3 1 7 grows refl

-- a tilt is twice the balance and its excess
tilt-is : (a b : ℕ) → tilt a b ≡ 2 * imbalance a b + excess a b
unfolding tilt imbalance excess
tilt-is a b = refl

pub even-tilt : (a p q r : ℕ) → a ≡ suc p → q ≡ p → r < p → suc (tilt q r + tilt p (over q r)) ≤ tilt p q + tilt a r
even-tilt a p q r f g k =
    omega (
      arith,
      tilt-is q r,
      tilt-is p (over q r),
      tilt-is p q,
      tilt-is a r,
      even-apart a p q r f g k,
      even-excess a p q r f g k,
    )

-- a carry below 0, above 0, and none
pub carry-neg : (o a d : ℕ) → carry o a (a + d) ≡ o * d
unfolding carry
carry-neg o a d =
    let e : (a + d) - a ≡ d = omega arith in
    let z : a - (a + d) ≡ 0 = omega arith in
    rw (e, z) (omega arith)

pub carry-pos : (o h d : ℕ) → carry o (h + d) h ≡ d
unfolding carry
carry-pos o h d =
    let z : h - (h + d) ≡ 0 = omega arith in
    rw z (omega arith)

pub carry-none : (o h : ℕ) → carry o h h ≡ 0
unfolding carry
carry-none o h = let z : h - h ≡ 0 = omega arith in rw z (omega arith)

-- a propagation that raises the register by suc d
propagate-up : (o s a b d above : ℕ)
    → 6 * carry o above (over (a + suc d) b) + tilt (a + suc d) b
    < 6 * carry o above (over a b) + tilt a b + 6 * carry (o + suc s) a (a + suc d)
propagate-up o s a b d above =
    let e : ℕ = over (a + suc d) b - over a b in
    let le : e ≤ suc d = omega arith in
    let eq : over (a + suc d) b ≡ over a b + e = omega arith in
    rw eq
    (omega (
      arith,
      carry-up o above (over a b) e,
      mul-le-mul_left o le,
      tilt-up a b (suc d),
      carry-neg (o + suc s) a (suc d),
    ))

-- a propagation that lowers it by suc d
tilt-fall : (h b d : ℕ) → tilt h b + 6 * (over (h + suc d) b - over h b) < tilt (h + suc d) b + 6 * suc d
tilt-fall h b d =
    elim (dec_le (h + suc d) b) [
      | yes higher ↦ omega (arith, tilt-down h b (suc d))
      | no lower ↦ elim (dec_le b h) [
        | yes below ↦
            omega (
              arith,
              tilt-mono (h + suc d) h b below (omega arith),
              tilt-gt (h + suc d) b (omega arith),
              tilt-ub h b below,
            )
        | no between ↦ omega (arith, tilt-gt (h + suc d) b (omega arith), tilt-sym h b, tilt-ub b h (omega arith))
      ]
    ]

propagate-down : (o s h b d above : ℕ)
    → 6 * carry o above (over h b) + tilt h b
    < 6 * carry o above (over (h + suc d) b) + tilt (h + suc d) b + 6 * carry (o + suc s) (h + suc d) h
propagate-down o s h b d above =
    let e : ℕ = over (h + suc d) b - over h b in
    let eq : over (h + suc d) b ≡ over h b + e = omega arith in
    omega (arith, rw (← eq) at (carry-down o above (over h b) e), tilt-fall h b d, carry-pos (o + suc s) h (suc d))

pub propagate-num : (o s a b h above : ℕ) → a ≢ h
    → 6 * carry o above (over h b) + tilt h b < 6 * carry o above (over a b) + tilt a b + 6 * carry (o + suc s) a h
propagate-num o s a b h above ne =
    elim (dec_lt a h) [
      | yes lt ↦
          let e : h ≡ a + suc (h - suc a) = omega arith in
          rw e (propagate-up o s a b (h - suc a) above)
      | no ge ↦
          let e : a ≡ h + suc (a - suc h) = omega arith in
          rw e (propagate-down o s h b (a - suc h) above)
    ]

pub carry-step : (o above h : ℕ) → carry o above h ≤ suc (carry o above (suc h))
carry-step o above h = omega (arith, rw (add-one h) at (carry-down o above h 1))
