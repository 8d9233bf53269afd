-- `drop::vacate` meets its contract. Assumes nothing.
use mathlib.Core.Path.{sym}
use Rattle.drop.proofs.vacate.Goals as goal

pub returns : goal.returns
returns c =
    simp (sym c.zeros.ensures, sym c.put_slot.ensures, sym c.put_records.ensures)
    c.next_change.ensures
