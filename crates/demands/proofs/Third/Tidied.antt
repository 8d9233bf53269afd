-- Demand 3: the worth is bounded; tidy fires no more often than the worth, and rests with enough budget. Assumes nothing.
use Prim.Native.Nat.{ℕ, ◌+◌, ◌*◌, ◌≤◌}
use mathlib.Core.Path.{◌≡◌, refl, ◌∙◌, ap}
use mathlib.Core.Bool.{true}
use mathlib.Core.List.{List, [], ◌∷◌, map}
use native.Mathlib.Omega.{arith}
use lib.ListN.{length}
use Rattle.scope.specs.Table.{word, change_word, count_word}
use Rattle.scope.specs.Sound.{tree_in}
use Rattle.scope.specs.Answers.{Done, accepted}
use Rattle.scope.specs.Worth.{largest_carry, largest_balance}
use Rattle.scope.specs.Tidy.{next_of, quiet, tidy_answer, tidy_table}
use Rattle.scope.specs.declared.answer.Answer.{Answer}
use Rattle.spelling.specs.Whole.{Whole}
use Rattle.spelling.proofs.Spell.{tree-in}
use Rattle.tree.proofs.Worth.Bound.{worth-bound}
use Rattle.bridge.proofs.Resting.Rests.{quiet-words, none-due}
use Rattle.demands.specs.Fires.{worth_in, Trial, accepted_in}
use Rattle.demands.specs.Tidying.{trial_at, Tidies, Stopped, all_spent, at_rest}
use Rattle.demands.proofs.Third.Falls.{worth-falls-at, spends}
use Rattle.demands.proofs.Second.Tidying.{next-fires, tidy-is, tidy-more}
use Rattle.std.specs.Prelude.{Option, Some, None}

-- the same reply to each is as many accepted ones
all-accepted : (change : ℕ) (xs : List Trial) → accepted_in (map (λ x. accepted change 0 0 0) xs) ≡ length xs
unfolding accepted_in
all-accepted change [] = refl
all-accepted change (x ∷ xs) = omega (arith, all-accepted change xs)

module _ {t : List ℕ} {c : ℕ} (w : Whole t c) where
  -- THE WORTH IS BOUNDED by the number of records, the largest carry and the largest balance
  pub worth-most : (let T = tree_in t c in let n = word t count_word in
      worth_in t c ≤ 6 * largest_carry T * n * (n + 1) + 3 * largest_balance T * n)
  worth-most =
      rw (tree-in t c w.sound, ← w.sound.count) (worth-bound w.sound.tree)

  -- a rule that is due costs worth
  next-worth : (v n : ℕ) → next_of t c ≡ Some (v, n) → 1 ≤ worth_in t c
  next-worth v n e =
      let x = trial_at t c v n in
      let code = ap (λ (d : Done). d.answer.code) (next-fires w v n e) in
      omega (arith, worth-falls-at w x code)

  none_left : worth_in t c ≡ 0 → (x : Option (ℕ × ℕ)) → next_of t c ≡ x → next_of t c ≡ None
  none_left z None e = e
  none_left z (Some (v, n)) e = absurd (omega (arith, next-worth v n e))

  rest-words : next_of t c ≡ None → quiet t c ≡ true
  rest-words e = quiet-words w (none-due w e)

module _ {t : List ℕ} {c : ℕ} (w : Whole t c) (budget : ℕ) where
  abbrev u : List ℕ
  u = tidy_table t budget

  does : Tidies t c budget
  does = tidy-is w budget

  value : (tidy_answer t budget).value ≡ length does.trials
  value = ap (λ (a : Answer). a.value) does.answer

  -- TIDY FIRES AT MOST AS OFTEN AS THE WORTH, and what is left of it is the worth at the end
  pub tidy-worth : (tidy_answer t budget).value + worth_in u c ≤ worth_in t c
  tidy-worth =
      let s = rw (does.run.table, does.run.replies) at (spends w does.trials) in
      omega (arith, s, value, all-accepted (word t change_word) does.trials)

  ended : worth_in t c ≤ budget → Stopped u c (length does.trials) budget → next_of u c ≡ None
  ended h (at_rest e) = e
  ended h (all_spent e) = none_left does.run.whole (omega (arith, tidy-worth, value)) (next_of u c) refl

  -- ENOUGH BUDGET ENDS QUIET
  pub tidy-enough : worth_in t c ≤ budget → (tidy_answer t budget).more ≡ 1
  tidy-enough h = tidy-more w budget ∙ rw (rest-words does.run.whole (ended h does.run.stopped)) refl
