-- Walks that come to an end within so many visits, or with exactly so many. Assumes nothing: these are statements.
use Rattle.std.specs.Prelude.{ℕ, ◌≤◌, ◌≡◌, true, List}
use Rattle.scope.specs.Walk.{walk_of}
use Rattle.scope.specs.Tidy.{quiet}
use Rattle.scope.specs.declared.side.Link.{Link}
use Rattle.scope.specs.declared.outcome.Passed.{Passed}
use Rattle.scope.specs.declared.outcome.Walk.{Walk}
use Rattle.scope.specs.declared.outcome.Walk.TheVariants.{Hit, Miss}
use Rattle.spelling.specs.Whole.{Whole}

-- the most records that a walk visits where no guard holds
abbrev pub most_visits : ℕ
most_visits = 16

-- hit or miss, and no damage
pub data Short (most : ℕ) : Walk → Type 0 where
  hit : {slot seen : ℕ} {link : Link} → seen ≤ most → Short most (Hit slot link seen)
  miss : {seen : ℕ} {link : Link} {passed : Passed} → seen ≤ most → Short most (Miss passed link seen)

-- a sound table where no guard holds, and a walk on it that visits so many records
pub record Visited (many : ℕ) : Type 0 where
  pub words : List ℕ
  pub slots : ℕ
  pub whole : Whole words slots
  pub at_rest : quiet words slots ≡ true
  pub key : ℕ
  pub slot : ℕ
  pub link : Link
  pub walk : walk_of words slots key ≡ Hit slot link many
