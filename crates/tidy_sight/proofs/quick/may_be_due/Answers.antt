-- `tidy_sight::quick::may_be_due` meets its contract. Assumes nothing.
use mathlib.Core.Path.{sym}
use Rattle.tidy_sight.specs.MayBeDue.{may_be_due}
use Rattle.tidy_sight.proofs.quick.may_be_due.Goals as goal

pub returns : goal.returns
unfolding may_be_due
returns c = simp (sym c.side_may_be_due.ensures, sym c.side_may_be_due-2.ensures)
