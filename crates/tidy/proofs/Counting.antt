-- How many slots are listed: one less when one is struck. Assumes nothing.
use Prim.Native.Nat.{ℕ, zero, suc, ◌+◌, ◌<◌}
use mathlib.Core.Path.{◌≡◌, refl}
use mathlib.Core.List.{List}
use native.Mathlib.Omega.{arith}
use native.Mathlib.Decide.{ℕ_discrete}
use borrow.Author.Tests.{eq-eqb, ne_eqb}
use Rattle.marks.specs.Marks.{bit_at, Unmarked}

-- among the first n slots
unfoldable pub how_many : ℕ → List ℕ → ℕ
how_many zero m = 0
how_many (suc n) m = bit_at m n + how_many n m

module _ {m : List ℕ} {k : ℕ} {m' : List ℕ} (s : Unmarked m k m') where
  kept : (j : ℕ) → j < 4096 → (j ≡ k → ⊥) → bit_at m' j ≡ bit_at m j
  kept j h ne = rw (ne_eqb j k ne) at (s.bits j h)

  gone : k < 4096 → bit_at m' k ≡ 0
  gone h = rw (eq-eqb k k refl) at (s.bits k h)

  same-below : (n : ℕ) → n < 4097 → (k < n → ⊥) → how_many n m' ≡ how_many n m
  unfolding how_many
  same-below zero h ne = refl
  same-below (suc n) h ne =
      let a = kept n (omega arith) (λ e. ne (omega arith)) in
      omega (arith, a, same-below n (omega arith) (λ i. ne (omega arith)))

  one_less : bit_at m k ≡ 1 → (n : ℕ) → n < 4097 → k < n → how_many n m' + 1 ≡ how_many n m
  unfolding how_many
  one_less on zero h l = absurd (omega arith)
  one_less on (suc n) h l =
      elim (ℕ_discrete k n) [
        | yes e ↦ omega (arith, rw e at (gone (omega arith)), rw e at on, same-below n (omega arith) (λ i. omega arith))
        | no ne ↦ omega (arith, kept n (omega arith) (λ e. ne (omega arith)), one_less on n (omega arith) (omega arith))
      ]

-- A SLOT THAT IS STRUCK is one less
pub fewer : {m : List ℕ} {k : ℕ} {m' : List ℕ} → Unmarked m k m' → k < 4096 → bit_at m k ≡ 1
    → how_many 4096 m' < how_many 4096 m
fewer s h on = omega (arith, one_less s on 4096 (omega arith) h)
