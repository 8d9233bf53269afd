-- How a run of tidy ends. Assumes nothing: these are statements.
use Rattle.std.specs.Prelude.{ℕ, ◌≤◌, ◌≡◌, List}
use Rattle.scope.specs.Tidy.{quiet, tidy_from, tidied}
use Rattle.scope.specs.declared.answer.Answer.{Answer}
use Rattle.tidy.specs.declared.run.End.{End}

-- e says how many firings were made, as defined and within the budget, and whether no guard holds in u, the table then
pub record Ended (t : List ℕ) (c budget : ℕ) (e : End) (u : List ℕ) : Type 0 where
  pub count : e.made ≡ (tidy_from budget c t 0).fired
  pub words : u ≡ (tidy_from budget c t 0).words
  pub within : e.made ≤ budget
  pub rests : e.quiet ≡ quiet u c

-- the five numbers a, and the table u, as defined
pub record TidiedSo (t : List ℕ) (c budget : ℕ) (a : Answer) (u : List ℕ) : Type 0 where
  pub answer : a ≡ (tidied t c (tidy_from budget c t 0)).answer
  pub words : u ≡ (tidied t c (tidy_from budget c t 0)).words
