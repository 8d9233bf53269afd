-- A sound table of c slots, as an open gate of `enter_sound` finds it. Assumes nothing: this is a statement.
use Rattle.std.specs.Prelude.{ℕ, List}
use Rattle.scope.specs.Sound.{Sound}
use Rattle.spelling.specs.Ready.{Sized}

pub record Whole (t : List ℕ) (c : ℕ) : Type 0 where
  pub sized : Sized t c
  pub sound : Sound t c
