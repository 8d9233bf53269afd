-- `text_print::line::put_record` meets its contract. Assumes nothing.
use Rattle.text_print.proofs.Laid.{both-put, record-parts}
use Rattle.text_print.proofs.line.put_record.Goals as goal

pub returns : goal.returns
returns c =
    rw (record-parts _ _) (both-put c.put_start-p.ensures c.put_end.ensures)
