-- `stand_shift::fill` meets its contract: a line more is answered behind the others. Assumes nothing.
use native.Mathlib.Omega.{arith}
use Rattle.stand_shift.proofs.Filling.{one-filled}
use Rattle.stand_shift.proofs.fill.Goals as goal

pub loop-next-preserved : goal.loop-next-preserved
loop-next-preserved c =
    let x = c.step-at.ensures in
    one-filled c.loop-next.invariant c.loop-next-test.true c.line_end-end.ensures x.put_in x.t_after (omega arith) (omega arith)
