-- tidy, by what its gate says. Assumes nothing.
use Prim.Native.Nat.{ℕ}
use mathlib.Core.Path.{◌≡◌, refl, sym, ◌∙◌, ap}
use mathlib.Core.Bool.{Bool, true, false, cond}
use mathlib.Core.List.{List}
use mir.Val.{bool_byte}
use Rattle.scope.specs.Table.{word, change_word}
use Rattle.scope.specs.Answers.{Done, refused, accepted}
use Rattle.scope.specs.Sums.{sound_gate}
use Rattle.scope.specs.Tidy.{quiet, tidied, tidy_from, tidy_of, tidy_answer, tidy_table}
use Rattle.scope.specs.declared.answer.Answer.{Answer}
use Rattle.scope.specs.declared.answer.Refusal.{Refusal}
use Rattle.tidy.specs.Run.{Ended, TidiedSo}
use Rattle.tidy.specs.declared.run.End.{End}
use Rattle.std.specs.Prelude.{Ok, Err}

-- a flag as a number
pub as-number : (b : Bool) → bool_byte b ≡ cond b 1 0
as-number true = refl
as-number false = refl

-- the answer of a run
pub told-so : (t : List ℕ) (c budget : ℕ) {e : End} {u : List ℕ} {a : Answer} {change made : ℕ} → Ended t c budget e u
    → change ≡ word t change_word → made ≡ e.made → a ≡ accepted change made (cond e.quiet 1 0) 0
    → TidiedSo t c budget a u
unfolding tidied
told-so t c budget {e} {change = change} {made = made} r p q s =
    let w = tidy_from budget c t 0 in
    let more : ℕ = cond (quiet w.words c) 1 0 in
    let same : accepted change made (cond e.quiet 1 0) 0 ≡ accepted (word t change_word) w.fired more 0
    = rw (p, q, r.count, r.rests, r.words) refl in
    record { answer = s ∙ same; words = r.words }

module _ (t : List ℕ) (budget : ℕ) where
  pub tidy-shut : {why : Refusal} → sound_gate t true ≡ Err why → tidy_of t budget ≡ refused t why
  unfolding tidy_of
  tidy-shut e = simp e

  pub tidy-open : {c : ℕ} {a : Answer} {u : List ℕ} → sound_gate t true ≡ Ok c → TidiedSo t c budget a u
      → (a ≡ tidy_answer t budget) × (u ≡ tidy_table t budget)
  unfolding tidy_of
  tidy-open {c} e r =
      let same : tidy_of t budget ≡ tidied t c (tidy_from budget c t 0) = simp e in
      (r.answer ∙ ap (λ (d : Done). d.answer) (sym same), r.words ∙ ap (λ (d : Done). d.words) (sym same))
