-- `gate::tests::state_ok` meets its contract. Assumes nothing.
use borrow.Author.Rules.{rules}
use Rattle.scope.specs.Fit.{state_ok}
use Rattle.gate.proofs.tests.state_ok.Goals as goal

pub returns : goal.returns
unfolding state_ok
returns c = search rules
