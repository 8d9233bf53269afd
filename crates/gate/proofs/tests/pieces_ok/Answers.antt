-- `gate::tests::pieces_ok` meets its contract. Assumes nothing.
use borrow.Author.Rules.{rules}
use Rattle.scope.specs.Fit.{pieces_ok}
use Rattle.gate.proofs.tests.pieces_ok.Goals as goal

pub returns : goal.returns
unfolding pieces_ok
returns c = search rules
