-- `text_print::line::put_end` meets its contract. Assumes nothing.
use Rattle.text_print.proofs.Laid.{field-then, last-text}
use Rattle.text_print.specs.Line.{record_end}
use Rattle.text_print.proofs.line.put_end.Goals as goal

pub returns : goal.returns
unfolding record_end
returns c =
    field-then _ _ _ _ _ c.put_field-p.ensures
    (field-then _ _ _ _ _ c.put_field-p-2.ensures
    (field-then _ _ _ _ _ c.put_field-p-3.ensures
    (field-then _ _ _ _ _ c.put_field-p-4.ensures (last-text c.put_text.ensures))))
