-- A slot listed or struck, and the word above kept right. Assumes nothing.
use Prim.Native.Nat.{ℕ, ◌+◌, ◌*◌, ◌/◌, ◌%◌, ◌^◌, ◌<◌}
use mathlib.Core.Path.{◌≡◌, refl, sym, ap, ◌∙◌}
use mathlib.Core.Bool.{cond}
use mathlib.Core.List.{List}
use native.Mathlib.Decide.{ℕ_discrete}
use native.Mathlib.Omega.{arith}
use lib.ListN.{get_or, replicate, get_or-replicate}
use lib.Count.{count_trailing_zeros}
use lib.Dec.{eqb}
use borrow.Author.Tests.{ne_eqb}
use Rattle.scope.proofs.Bools.{by_bool}
use Rattle.marks.specs.Marks.{bit_at, WordPut, BitPut}
use Rattle.marks.proofs.Laws.{slot-bit, put-here, word-none, word-some}
use Rattle.std.proofs.lemmas.Nat.Bits.{bit_at-zero}
use Rattle.tidy_agenda.specs.Agenda.{AboveTells, LowestBit}
use Rattle.tidy_agenda.proofs.Zeros.{lowest-bit}

-- at first
pub first-above : AboveTells (replicate 64 0) 0
first-above = record { bit = λ i l. rw (bit_at-zero i, get_or-replicate {A = ℕ} 64 i 0 0 l) refl }

module _ {m m' : List ℕ} {k above : ℕ} (a : AboveTells m above) where
  -- another word is as it was, and so is its bit above
  apart : {y : ℕ} → BitPut y m k m' → (i : ℕ) → i < 64 → (i ≡ k / 64 → ⊥)
      → above / 2 ^ i % 2 ≡ cond (eqb (get_or m' i 0) 0) 0 1
  apart b i l ne = a.bit i l ∙ ap (λ (w : ℕ). cond (eqb w 0) 0 1) (sym (b.words i ne))

  pub listed-above : {above' : ℕ} → k < 4096 → BitPut 1 m k m' → WordPut 1 above (k / 64) above' → AboveTells m' above'
  listed-above {above'} h b p =
      let some : get_or m' (k / 64) 0 ≡ 0 → ⊥ = word-some _ _ (put-here b h) in
      record {
        bit = λ i l. elim (ℕ_discrete i (k / 64)) [
          | yes e ↦ rw (e, ne_eqb _ 0 some) p.here
          | no ne ↦ p.rest i l ne ∙ apart b i l ne
        ];
      }

  -- a slot is struck, and its word still lists one: then it did before
  listed-before : k < 4096 → BitPut 0 m k m' → get_or m' (k / 64) 0 < 2 ^ 64 → (get_or m' (k / 64) 0 ≡ 0 → ⊥)
      → get_or m (k / 64) 0 ≡ 0 → ⊥
  listed-before h b fits some none =
      let b' : ℕ = count_trailing_zeros 64 (get_or m' (k / 64) 0) in
      let j : ℕ = 64 * (k / 64) + b' in
      let f : LowestBit (get_or m' (k / 64) 0) 64 b' = lowest-bit _ fits some in
      let word : j / 64 ≡ k / 64 = omega (arith, f.inside) in
      let bit : j % 64 ≡ b' = omega (arith, f.inside) in
      let on : bit_at m' j ≡ 1 = slot-bit m' j (k / 64) b' word bit ∙ f.on in
      let off : bit_at m j ≡ 0 = word-none m j (rw word none) in
      let was = b.bits j (omega (arith, f.inside)) in
      by_bool (eqb j k)
      (λ e. let q = rw e at was in absurd (omega arith))
      (λ e. let q = rw e at was in absurd (omega arith))

  pub struck-within : k < 4096 → BitPut 0 m k m' → get_or m' (k / 64) 0 < 2 ^ 64 → (get_or m' (k / 64) 0 ≡ 0 → ⊥)
      → AboveTells m' above
  struck-within h b fits some = record {
    bit = λ i l. elim (ℕ_discrete i (k / 64)) [
      | yes e ↦ a.bit i l ∙ rw (e, ne_eqb _ 0 some, ne_eqb _ 0 (listed-before h b fits some)) refl
      | no ne ↦ apart b i l ne
    ];
  }
