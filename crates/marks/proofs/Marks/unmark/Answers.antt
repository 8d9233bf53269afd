-- `marks::Marks::unmark` meets its contract. Assumes nothing.
use Rattle.marks.proofs.Bits.{slot-put}
use Rattle.marks.proofs.Marks.unmark.Goals as goal

pub returns-clause-unmarked : goal.returns-clause-unmarked
returns-clause-unmarked c = rw (← c.self.view_is) (slot-put c.requires c.self.told c.without_bit-left.ensures)
