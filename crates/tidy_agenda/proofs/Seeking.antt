-- The lowest slot that is listed, by the word above and its own word. Assumes nothing.
use Prim.Native.Nat.{ℕ, ◌+◌, ◌*◌, ◌/◌, ◌%◌, ◌^◌, ◌<◌}
use mathlib.Core.Path.{◌≡◌, refl, ap, ◌∙◌}
use mathlib.Core.List.{List}
use native.Mathlib.Decide.{dec_lt}
use native.Mathlib.Omega.{arith}
use lib.ListN.{get_or}
use lib.Dec.{eqb}
use borrow.Author.Tests.{eqb-true}
use Rattle.scope.proofs.Bools.{by_bool}
use Rattle.marks.specs.Marks.{bit_at, NoneMarked}
use Rattle.marks.proofs.Laws.{slot-bit, word-none}
use Rattle.std.proofs.lemmas.Nat.Bits.{bit_at-zero}
use Rattle.tidy_agenda.specs.Agenda.{AboveTells, LowestBit, LowestSlot}

module _ {m : List ℕ} {above : ℕ} (a : AboveTells m above) where
  -- a word that it leaves out lists nothing
  left-out : (i : ℕ) → i < 64 → above / 2 ^ i % 2 ≡ 0 → get_or m i 0 ≡ 0
  left-out i l e =
      by_bool (eqb (get_or m i 0) 0)
      (λ p. eqb-true _ 0 p)
      (λ p. let q = rw p at (a.bit i l) in absurd (omega arith))

  unlisted : (j : ℕ) → j < 4096 → above / 2 ^ (j / 64) % 2 ≡ 0 → bit_at m j ≡ 0
  unlisted j l e = word-none m j (left-out (j / 64) (omega arith) e)

  pub lowest-none : above ≡ 0 → NoneMarked m
  lowest-none z j l = unlisted j l (ap (λ (w : ℕ). w / 2 ^ (j / 64) % 2) z ∙ bit_at-zero (j / 64))

  pub lowest-slot : {i b : ℕ} → LowestBit above 64 i → LowestBit (get_or m i 0) 64 b → LowestSlot m (64 * i + b)
  lowest-slot {i} {b} f g = record {
    inside = omega (arith, f.inside, g.inside);
    listed = slot-bit m (64 * i + b) i b (omega (arith, g.inside)) (omega (arith, g.inside)) ∙ g.on;
    below = λ j l. elim (dec_lt (j / 64) i) [
      | yes p ↦ unlisted j (omega (arith, f.inside, g.inside)) (f.off (j / 64) p)
      | no p ↦
          let same : j / 64 ≡ i = omega (arith, g.inside) in
          slot-bit m j i (j % 64) same refl ∙ g.off (j % 64) (omega (arith, g.inside))
    ];
  }
