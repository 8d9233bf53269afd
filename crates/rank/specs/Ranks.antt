-- What a walk for a rank says. Assumes nothing: these are statements.
use Rattle.std.specs.Prelude.{ℕ, ◌-◌, ◌≤◌, List}
use Rattle.std.specs.declared.ops.ControlFlow.{ControlFlow}
use Rattle.std.specs.declared.ops.ControlFlow.TheVariants.{Continue, Break}
use Rattle.scope.specs.Sums.{rank_of}
use Rattle.fork.specs.Hangs.{Says}
use Rattle.std.specs.Prelude.{Result, Ok, Err}

-- a slot, or how many come before the rank that is still wanted
abbrev pub found_rank : ℕ → ControlFlow ℕ ℕ → Result ℕ ℕ
found_rank wanted (Break k) = Ok k
found_rank wanted (Continue n) = Err (wanted - n)

-- no more is wanted than was
abbrev pub AtMost : ℕ → ControlFlow ℕ ℕ → Type 0
AtMost wanted (Break k) = Unit {0}
AtMost wanted (Continue n) = n ≤ wanted

-- what a walk from link x found
pub record Seeks (t : List ℕ) (x wanted : ℕ) (found : ControlFlow ℕ ℕ) : Type 0 where
  pub most : AtMost wanted found
  pub says : Says t x (rank_of wanted) (found_rank wanted found)
