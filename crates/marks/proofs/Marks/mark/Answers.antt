-- `marks::Marks::mark` meets its contract. Assumes nothing.
use Rattle.marks.proofs.Bits.{slot-put}
use Rattle.marks.proofs.Marks.mark.Goals as goal

pub returns : goal.returns
returns c = rw (← c.self.view_is) (slot-put c.requires c.self.told c.with_bit.ensures)
