-- `tidy_holders::entry::Holders::turned_twice` meets its contract. Assumes nothing.
use mathlib.Core.Path.{refl, ◌∙◌}
use Rattle.tidy_holders.specs.Holds.{noted, noted_part}
use Rattle.tidy_holders.proofs.entry.Holders.turned_twice.Goals as goal

pub returns : goal.returns
unfolding noted noted_part
returns c = c.sons_moved.ensures ∙ rw c.top_moved.ensures refl
