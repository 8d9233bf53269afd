-- `gate::tests::blank` meets its contract. Assumes nothing.
use borrow.Author.Rules.{rules}
use Rattle.scope.specs.Fit.{blank_slot}
use Rattle.gate.proofs.tests.blank.Goals as goal

pub returns : goal.returns
unfolding blank_slot
returns c = search rules
