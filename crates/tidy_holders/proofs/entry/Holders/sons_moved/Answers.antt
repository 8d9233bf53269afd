-- `tidy_holders::entry::Holders::sons_moved` meets its contract. Assumes nothing.
use mathlib.Core.Path.{refl, ◌∙◌}
use Rattle.tidy_holders.specs.Holds.{noted, noted_part}
use Rattle.tidy_holders.proofs.entry.Holders.sons_moved.Goals as goal

pub returns : goal.returns
unfolding noted noted_part
returns c = c.note-2.ensures ∙ rw (c.note.ensures, c.son-2.ensures, c.son.ensures, c.other-far.ensures) refl
