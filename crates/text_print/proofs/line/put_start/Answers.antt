-- `text_print::line::put_start` meets its contract. Assumes nothing.
use Rattle.text_print.proofs.Laid.{field-then, no_text, no_more}
use Rattle.text_print.specs.Line.{record_start}
use Rattle.text_print.proofs.line.put_start.Goals as goal

pub returns : goal.returns
unfolding record_start
returns c =
    no_more _ (field-then _ _ _ _ _ c.put_field-p.ensures
    (field-then _ _ _ _ _ c.put_field-p-2.ensures
    (field-then _ _ _ _ _ c.put_field-p-3.ensures
    (field-then _ _ _ _ _ c.put_field.ensures (no_text _ _)))))
