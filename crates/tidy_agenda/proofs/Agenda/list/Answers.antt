-- `tidy_agenda::Agenda::list` meets its contract. Assumes nothing.
use Rattle.tidy_agenda.proofs.Puts.{listed-above}
use Rattle.tidy_agenda.proofs.Agenda.list.Goals as goal

pub invariant_of-self : goal.invariant_of-self
invariant_of-self c = listed-above c.self.invariant c.requires c.mark.ensures c.with_bit-self-inside.ensures
