-- `stand_desk::step` meets its contract. Assumes nothing.
use Rattle.stand_desk.proofs.Steps.{step-printed, left}
use Rattle.stand_desk.proofs.step.Goals as goal

pub returns : goal.returns
returns c =
    let p = c.parse.ensures in
    let e = c.carry_out-reply.ensures in
    record {
      put_in = step-printed _ _ _ _ _ p e.0 e.1 c.carry_out-reply.auto.t c.put_reply.ensures;
      t_after = left _ _ _ _ p e.1;
    }
