-- `tidy_agenda::Agenda::strike` meets its contract. Assumes nothing.
use native.Mathlib.Omega.{arith}
use Rattle.tidy_agenda.proofs.Puts.{struck-within}
use Rattle.tidy_agenda.proofs.Agenda.strike.Goals as goal

pub invariant_of-self-else-left-eq0 : goal.invariant_of-self-else-left-eq0
invariant_of-self-else-left-eq0 c =
    let w = c.unmark-left in
    struck-within c.self.invariant (omega (arith, c.requires)) w.ensures.unmarked (rw (← w.ensures.left) w.type_inv)
    (rw (← w.ensures.left) c.if-left-eq0.false)
