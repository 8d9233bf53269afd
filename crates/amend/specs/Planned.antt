-- The plan of an amendment: its writes lie in the table. Assumes nothing: these are statements.
use Rattle.std.specs.Prelude.{ℕ, ◌<◌, ◌≡◌, List}
use Rattle.scope.specs.Numbers.{last_change}
use Rattle.scope.specs.Table.{word, change_word}
use Rattle.gate.specs.AtSlot.{AtSlot}
use Rattle.std.specs.Prelude.{Result, Ok, Err}
use Rattle.scope.specs.declared.answer.Denial.{Denial}

-- a record can be changed
pub record Changeable (t : List ℕ) (k : ℕ) : Type 0 where
  pub placed : AtSlot t k
  pub change : word t change_word < last_change

abbrev pub CanAmend : List ℕ → Result ℕ Denial → Type 0
CanAmend t (Err why) = Unit {0}
CanAmend t (Ok k) = Changeable t k

-- the plan is the defined one and can be carried out
pub record AmendPlanned (t : List ℕ) (plan r : Result ℕ Denial) : Type 0 where
  pub is : r ≡ plan
  pub can : CanAmend t r
