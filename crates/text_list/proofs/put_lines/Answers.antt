-- `text_list::put_lines` meets its contract: the part of the list that was written is in order. Assumes nothing.
use Rattle.text_list.proofs.Records.{cut}
use Rattle.text_list.proofs.put_lines.Goals as goal

pub put_all-requires : goal.put_all-requires
put_all-requires c = (cut c.order_in-n.ensures, c.requires)
