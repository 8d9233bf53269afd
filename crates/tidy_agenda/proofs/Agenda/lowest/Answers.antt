-- `tidy_agenda::Agenda::lowest` meets its contract. Assumes nothing.
use mathlib.Core.Path.{sym}
use Rattle.tidy_agenda.proofs.Seeking.{lowest-none, lowest-slot}
use Rattle.tidy_agenda.proofs.Agenda.lowest.Goals as goal

pub returns-then-self-eq0 : goal.returns-then-self-eq0
returns-then-self-eq0 c = rw (← c.self.view_is) (lowest-none c.self.invariant c.if-self-eq0.true)

pub returns : goal.returns
returns c =
    rw (← c.self.view_is)
    (lowest-slot c.self.invariant c.lowest_in-at.ensures (rw (sym c.word.ensures) c.lowest_in.ensures))
