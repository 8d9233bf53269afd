-- `text_print::line::put_answer` meets its contract. Assumes nothing.
use Rattle.text_print.proofs.Laid.{field-then, last-text}
use Rattle.text_print.specs.Line.{answer_line}
use Rattle.text_print.proofs.line.put_answer.Goals as goal

pub returns : goal.returns
unfolding answer_line
returns c =
    field-then _ _ _ _ _ c.put_field-p.ensures
    (field-then _ _ _ _ _ c.put_field-p-2.ensures
    (field-then _ _ _ _ _ c.put_field-p-3.ensures
    (field-then _ _ _ _ _ c.put_field-p-4.ensures
    (field-then _ _ _ _ _ c.put_field-p-5.ensures (last-text c.put_text.ensures)))))
