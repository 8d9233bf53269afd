-- `rank::ranked` meets its contract. Assumes nothing.
use Rattle.scope.specs.Sums.{ranked}
use mathlib.Core.Path.{sym}
use Rattle.rank.proofs.ranked.Goals as goal

pub returns-in-Ok : goal.returns-in-Ok
unfolding ranked
returns-in-Ok c = simp (c.in-Ok.is, sym c.told.ensures)

pub returns-in-Err : goal.returns-in-Err
unfolding ranked
returns-in-Err c = simp (c.in-Err.is, sym c.refuse.ensures)
