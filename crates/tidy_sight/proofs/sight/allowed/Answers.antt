-- `tidy_sight::sight::allowed` meets its contract. Assumes nothing.
use mathlib.Core.Path.{sym}
use Rattle.tidy_sight.proofs.sight.allowed.Goals as goal

pub returns : goal.returns
returns c = simp (sym c.guard.ensures, sym c.highest.ensures)
