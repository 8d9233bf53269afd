-- `stand_shift::run::put_refusal` meets its contract. Assumes nothing.
use native.Mathlib.Omega.{arith}
use mathlib.Core.Path.{ap, ◌∙◌}
use Rattle.text_print.specs.Line.{answer_line}
use Rattle.stand_shift.proofs.Filling.{put_front}
use Rattle.stand_shift.proofs.run.put_refusal.Goals as goal

pub returns : goal.returns
returns c =
    (put_front c.put_answer.ensures.put (omega arith) ∙ ap answer_line c.refuse.ensures, omega arith)
