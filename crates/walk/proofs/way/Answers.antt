-- `walk::way` meets its contract. Assumes nothing.
use borrow.Author.Tests.{lt-ltb, le-ltb}
use Rattle.walk.specs.Walked.{way_of}
use Rattle.walk.proofs.way.Goals as goal

pub returns-then-key-s : goal.returns-then-key-s
unfolding way_of
returns-then-key-s c = simp (lt-ltb _ _ c.if-key-s.true)

pub returns-else-key-s : goal.returns-else-key-s
unfolding way_of
returns-else-key-s c = simp (le-ltb _ _ c.if-key-s.false)
