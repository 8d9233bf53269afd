-- `words::read::slot_at` meets its contract. Assumes nothing.
use borrow.Author.Rules.{rules}
use Rattle.scope.specs.Table.{slot_at}
use Rattle.words.proofs.read.slot_at.Goals as goal

pub returns : goal.returns
unfolding slot_at
returns c = search rules
