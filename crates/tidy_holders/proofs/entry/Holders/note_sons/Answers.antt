-- `tidy_holders::entry::Holders::note_sons` meets its contract. Assumes nothing.
use mathlib.Core.Path.{refl, ◌∙◌}
use Rattle.tidy_holders.specs.Holds.{sons_noted}
use Rattle.tidy_holders.proofs.entry.Holders.note_sons.Goals as goal

pub returns : goal.returns
unfolding sons_noted
returns c =
    c.note-2.ensures ∙ rw (c.note.ensures, c.son-2.ensures, c.son.ensures, c.slot_at-s.ensures) refl
