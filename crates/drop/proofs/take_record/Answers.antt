-- `drop::take_record` meets its contract. Assumes nothing.
use mathlib.Core.Path.{sym}
use Rattle.drop.proofs.take_record.Goals as goal

pub returns : goal.returns
returns c =
    simp (sym c.slot_at-s.ensures, sym c.with_record-new.ensures) c.put_slot.ensures
