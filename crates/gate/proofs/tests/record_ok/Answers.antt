-- `gate::tests::record_ok` meets its contract. Assumes nothing.
use mathlib.Core.Path.{sym}
use Rattle.scope.specs.Fit.{record_ok}
use Rattle.gate.proofs.tests.record_ok.Goals as goal

pub returns : goal.returns
unfolding record_ok
returns c = simp (sym c.pieces_ok.ensures, sym c.state_ok.ensures)
