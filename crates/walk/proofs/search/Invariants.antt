-- `walk::search` meets its contract: the invariant is that the whole walk is what is still to be walked (`Heading`),
use Prim.Native.Nat.{◌-◌}
use Rattle.walk.proofs.Visits.{Heading}
use Rattle.walk.proofs.search.Given as goal

abbrev pub invariant-loop-at : goal.invariant-loop-at
invariant-loop-at l = Heading l.table.words.now l.table.slots l.key l.at l.link l.passed l.seen

abbrev pub decreases-loop-at : goal.decreases-loop-at
decreases-loop-at l = l.table.slots - l.seen
