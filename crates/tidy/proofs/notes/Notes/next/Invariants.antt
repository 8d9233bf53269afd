-- `tidy::notes::Notes::next` meets its contract. Assumes nothing.
use mathlib.Core.Path.{◌≡◌}
use Rattle.tidy.specs.Coming.{DueListed}
use Rattle.tidy.proofs.Counting.{how_many}
use Rattle.tidy.proofs.Scanning.{Tried}
use Rattle.tidy.proofs.notes.Notes.next.Given as goal

abbrev pub invariant-loop-n : goal.invariant-loop-n
invariant-loop-n l = Tried l.t l.c l.v l.n

abbrev pub invariant-slots : goal.invariant-slots
invariant-slots l = DueListed l.t l.c l.self.agenda × (l.self.holders ≡ l.initial.self.holders)

abbrev pub decreases-slots : goal.decreases-slots
decreases-slots l = how_many 4096 l.self.agenda
