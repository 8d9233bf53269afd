-- `amend::change_record` meets its contract. Assumes nothing.
use mathlib.Core.Path.{sym}
use Rattle.scope.specs.Amend.{amended}
use Rattle.amend.proofs.change_record.Goals as goal

pub returns : goal.returns
unfolding amended
returns c =
    simp (
      sym c.change-change.ensures,
      sym c.slot_at-s.ensures,
      sym c.with_record-new.ensures,
      sym c.put_slot.ensures,
    )
    c.next_change.ensures
