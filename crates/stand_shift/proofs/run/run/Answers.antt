-- `stand_shift::run::run` meets its contract: what was read is all that the reader had, or too long already. Assumes nothing.
use native.Mathlib.Omega.{arith}
use Prim.Native.Nat.{◌+◌}
use mathlib.Core.Path.{ap}
use Rattle.std.specs.Prelude.{Ok}
use Rattle.stand_shift.specs.declared.run.TheConstants.{MOST_INPUT}
use Rattle.stand_shift.proofs.Written.{was-made, read-ended, read-full}
use Rattle.stand_shift.proofs.run.run.Goals.{in-Ended, in-Full}
use Rattle.stand_shift.proofs.run.run.Goals as goal

pub returns-clause-answered : goal.returns-clause-answered
returns-clause-answered g c =
    let read = c.in-Ok.ensures in
    let done = c.in_ok-done.was in
    elim c.match-read.branch [
      | in-Ended w ↦ rw w.writer-is
          (read-ended _ _ _ _ _ (rw w.in-Ended.is at read.bytes) (read.ended _ (ap Ok w.in-Ended.is)).1
          (was-made w.done-is done w.answer_all.ensures.bytes))
      | in-Full w ↦ rw w.writer-is
          (read-full _ _ _ _ _ (MOST_INPUT + 1) (rw w.in-Full.is at read.bytes) (omega arith) (omega arith)
          (was-made w.done-is done w.refuse_all.ensures.bytes))
    ]
