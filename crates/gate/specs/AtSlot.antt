-- A slot of a table with a good header. Assumes nothing: this is a statement.
use Rattle.std.specs.Prelude.{ℕ, ◌≤◌, List}
use Rattle.spelling.specs.Ready.{Ready}

-- slot k is one of the table's
pub record AtSlot (t : List ℕ) (k : ℕ) : Type 0 where
  pub slots : ℕ
  pub ready : Ready t slots
  pub first : 1 ≤ k
  pub last : k ≤ slots
