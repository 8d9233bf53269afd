-- `tidy_agenda::Agenda::new` meets its contract. Assumes nothing.
use Rattle.marks.proofs.Laws.{none-marked}
use Rattle.tidy_agenda.proofs.Puts.{first-above}
use Rattle.tidy_agenda.proofs.Agenda.new.Goals as goal

pub invariant_of-result : goal.invariant_of-result
invariant_of-result c = rw c.new.ensures first-above

pub returns : goal.returns
returns c = rw c.new.ensures none-marked
