-- Slots looked at one after the other. Assumes nothing.
use Prim.Native.Nat.{ℕ, ◌+◌, ◌≤◌}
use mathlib.Core.Path.{◌≡◌, refl, sym, ◌∙◌}
use mathlib.Core.Bool.{Bool, true, false, cond}
use mathlib.Core.List.{List}
use native.Mathlib.Omega.{arith}
use native.Mathlib.Decide.{ℕ_discrete}
use borrow.Author.Tests.{eq-eqb, ne_eqb}
use Rattle.tidy_sight.proofs.Unlisted.{may-not-be-due}
use Rattle.tidy.specs.Reviewed.{Reviewed, looked, passed, Without, AllReviewed}
use Rattle.tidy.specs.Coming.{DueListed}

-- it is struck, so the test failed
told : (b : Bool) → ◌≡◌ {A = ℕ} (cond b 1 0) 0 → b ≡ false
told true e = absurd (omega arith)
told false e = refl

module _ {t : List ℕ} {c : ℕ} where
  module _ {P : ℕ → Type 0} {m m₁ : List ℕ} (w : Without t c P m m₁) where
    pub one-looked : {k : ℕ} {m₂ : List ℕ} → 1 ≤ k → Reviewed t c m₁ k m₂ → Without t c (λ j. P j × (j ≡ k → ⊥)) m m₂
    one-looked {k} i r = record {
      zero = λ z. (rw (ne_eqb 0 k (λ e. omega arith)) at (r.bits 0 (omega arith))) ∙ w.zero z;
      unlisted = λ j h e. elim (ℕ_discrete j k) [
        | yes q ↦
            let f = rw (eq-eqb j k q) at (r.bits j h) in
            looked (rw q (told _ (sym f ∙ e)))
        | no q ↦
            let f = rw (ne_eqb j k q) at (r.bits j h) in
            elim (w.unlisted j h (sym f ∙ e)) [ looked g ↦ looked g | passed p z ↦ passed (p, q) z ]
      ];
    }

    pub as-without : {Q : ℕ → Type 0} → ((k : ℕ) → P k → Q k) → Without t c Q m m₁
    as-without f = record {
      zero = w.zero;
      unlisted = λ k h e. elim (w.unlisted k h e) [ looked g ↦ looked g | passed p z ↦ passed (f k p) z ];
    }

  pub all_listed : {m : List ℕ} → AllReviewed t c m (c + 1) → DueListed t c m
  all_listed s = record {
    zero = s.zero;
    unlisted = λ k i j e n p q. may-not-be-due t c k (s.unlisted k i j (omega arith) e) n;
  }
