-- `stand_desk::put_reply` meets its contract. Assumes nothing.
use native.Mathlib.Omega.{arith}
use Rattle.text_list.proofs.Records.{wider}
use Rattle.stand_desk.specs.Step.{reply_text}
use Rattle.stand_desk.proofs.put_reply.Goals as goal

pub returns-in-Say : goal.returns-in-Say
unfolding reply_text
returns-in-Say c =
    rw c.in-Say.is
    (wider c.put_answer.ensures (omega arith))

pub returns-in-List : goal.returns-in-List
unfolding reply_text
returns-in-List c = rw c.in-List.is c.put_list.ensures
