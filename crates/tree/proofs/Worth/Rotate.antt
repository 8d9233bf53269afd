-- What the rotations do to balances, by any weight that grows evenly with a balance. Assumes nothing.
use Prim.Native.Nat.{ℕ, suc, ◌+◌, ◌*◌, ◌≤◌, ◌<◌}
use mathlib.Core.Path.{◌≡◌}
use native.Mathlib.Omega.{arith}
use native.Mathlib.Decide.{dec_le}
use native.Mathlib.Nat.{mul-le-mul_left}
use Rattle.scope.specs.Tree.{over}

-- a balance of d weighs c times d less e, and nothing where there is none
pub record Grows (f : ℕ → ℕ → ℕ) (c e : ℕ) : Type 0 where
  pub even : (a b : ℕ) → f a b ≡ f b a
  pub next : (a b : ℕ) → f (suc a) (suc b) ≡ f a b
  pub is : (a b : ℕ) → b < a → f a b + (c * b + e) ≡ c * a
  pub most : (a b : ℕ) → b ≤ a → f a b + c * b ≤ c * a
  pub less : (a b h : ℕ) → h ≤ b → b ≤ a → f b h ≤ f a h

-- a and r are v's registers, p and q u's, x and y w's; the balances fall by k
module _ (f : ℕ → ℕ → ℕ) (c e k : ℕ) (g : Grows f c e) (fall : k + 2 * e ≡ 3 * c) where
  pub lean : (a p q r : ℕ) → a ≡ suc p → q < p → r < p → k + (f q r + f p (over q r)) ≤ f p q + f a r
  lean a p q r t h l =
      let one = g.is p q h in
      let two = g.is (suc p) r (omega arith) in
      let three = mul-le-mul_left c h in
      let four = mul-le-mul_left c l in
      rw t
      (elim (dec_le r q) [
        | yes le ↦
            let o : over q r ≡ suc q = omega arith in
            rw o (omega (arith, g.most q r le, g.most p (suc q) h))
        | no gt ↦
            let o : over q r ≡ suc r = omega arith in
            rw o (omega (arith, g.even q r, g.most r q (omega arith), g.most p (suc r) l))
      ])

  -- where w's near register is the larger
  near : (p r x y : ℕ) → y ≤ x → p ≤ x → r ≤ x
      → k + (f p x + (f y r + f (suc x) (over y r))) ≤ f x y + (f p (suc x) + f (suc (suc x)) r)
  near p r x y hy hp hr =
      let one = g.even p x in
      let two = g.most x p hp in
      let three = g.even p (suc x) in
      let four = g.is (suc x) p (omega arith) in
      let five = g.is (suc (suc x)) r (omega arith) in
      elim (dec_le r y) [
        | yes le ↦
            let o : over y r ≡ suc y = omega arith in
            rw o (omega (arith, g.next x y, g.most y r le, mul-le-mul_left c hy))
        | no gt ↦
            let o : over y r ≡ suc r = omega arith in
            rw o (omega (arith, g.next x r, g.most x r hr, g.even y r, g.less x r y (omega arith) hr))
      ]

  -- where the far one is: the same from the other end
  far : (p r x y : ℕ) → x ≤ y → p ≤ y → r ≤ y
      → k + (f p x + (f y r + f (over p x) (suc y))) ≤ f x y + (f p (suc y) + f (suc (suc y)) r)
  far p r x y hx hp hr =
      let o : over p x ≡ over x p = omega arith in
      rw o
      (omega (
        arith,
        near r p y x hx hr hp,
        g.is (suc y) p (omega arith),
        g.is (suc y) r (omega arith),
        g.is (suc (suc y)) p (omega arith),
        g.is (suc (suc y)) r (omega arith),
        g.even r y,
        g.even x p,
        g.even y x,
        g.even (suc y) (over x p),
        g.even r (suc y),
        g.even p (suc y),
      ))

  pub double : (a p q r x y : ℕ) → a ≡ suc q → q ≡ over x y → p < q → r < q
      → k + (f p x + (f y r + f (over p x) (over y r))) ≤ f x y + (f p q + f a r)
  double a p q r x y t h hp hr =
      elim (dec_le y x) [
        | yes le ↦
            let d : q ≡ suc x = omega arith in
            let o : over p x ≡ suc x = omega arith in
            rw (t, d, o) (near p r x y le (omega arith) (omega arith))
        | no gt ↦
            let d : q ≡ suc y = omega arith in
            let o : over y r ≡ suc y = omega arith in
            rw (t, d, o) (far p r x y (omega arith) (omega arith) (omega arith))
      ]
