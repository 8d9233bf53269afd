-- What a mark is, and what is there before the first one. Assumes nothing.
use Prim.Native.Nat.{ℕ, ◌+◌, ◌/◌, ◌%◌, ◌^◌, ◌<◌}
use mathlib.Core.Path.{◌≡◌, refl, sym, ap, ◌∙◌}
use mathlib.Core.Bool.{false}
use mathlib.Core.List.{List}
use native.Mathlib.Nat.{zero-div}
use native.Mathlib.Omega.{arith}
use lib.ListN.{get_or, replicate, get_or-replicate}
use lib.Dec.{eqb}
use borrow.Author.Tests.{eqb-true, eqb-false, eq-eqb}
use Rattle.scope.proofs.Bools.{by_bool}
use Rattle.scope.specs.Tree.{same}
use Rattle.marks.specs.Marks.{bit_at, NoneMarked, BitPut, Marked}
use Rattle.std.proofs.lemmas.Nat.Bits.{bit_at-zero}

pub bit-small : (m : List ℕ) (k : ℕ) → bit_at m k < 2
unfolding bit_at
bit-small m k = omega arith

-- slot k's mark is a bit of its word
pub slot-bit : (m : List ℕ) (k i b : ℕ) → k / 64 ≡ i → k % 64 ≡ b → bit_at m k ≡ get_or m i 0 / 2 ^ b % 2
unfolding bit_at
slot-bit m k i b p q = rw (p, q) refl

-- a slot whose test failed is not marked
pub unmarked : (m : List ℕ) (k : ℕ) → eqb (bit_at m k) 1 ≡ false → bit_at m k ≡ 0
unmarked m k e = omega (arith, bit-small m k, eqb-false (bit_at m k) 1 e)

-- where slot k was not marked, its mark adds one there and nothing elsewhere
pub adds : {m : List ℕ} {k : ℕ} {m' : List ℕ} → Marked m k m' → bit_at m k ≡ 0 → (j : ℕ) → j < 4096
    → bit_at m' j ≡ bit_at m j + same j k
adds {m} {k} {m'} a z j h =
    by_bool (eqb j k)
    (λ e. let i = eqb-true j k e in rw (a.bits j h, e) (omega (arith, ap (bit_at m) i)))
    (λ e. rw (a.bits j h, e) (omega arith))

pub put-here : {y : ℕ} {m : List ℕ} {k : ℕ} {m' : List ℕ} → BitPut y m k m' → k < 4096 → bit_at m' k ≡ y
put-here {y} {m} {k} b h = rw (b.bits k h, eq-eqb k k refl) refl

-- a word of 0 has no mark
pub word-none : (m : List ℕ) (j : ℕ) → get_or m (j / 64) 0 ≡ 0 → bit_at m j ≡ 0
unfolding bit_at
word-none m j e = ap (λ (w : ℕ). w / 2 ^ (j % 64) % 2) e ∙ bit_at-zero (j % 64)

pub word-some : (m : List ℕ) (k : ℕ) → bit_at m k ≡ 1 → get_or m (k / 64) 0 ≡ 0 → ⊥
word-some m k on e = let q : ◌≡◌ {A = ℕ} 0 1 = sym (word-none m k e) ∙ on in absurd (omega arith)

-- no slot is marked at first
pub none-marked : NoneMarked (replicate 64 0)
unfolding bit_at
none-marked k h =
    ap (λ (w : ℕ). w / 2 ^ (k % 64) % 2) (get_or-replicate 64 (k / 64) 0 0 (omega arith))
    ∙ ap (λ (w : ℕ). w % 2) (zero-div (2 ^ (k % 64)))
