-- `tidy_holders::entry::link_number` meets its contract. Assumes nothing.
use native.Mathlib.Omega.{arith}
use Rattle.tidy_holders.specs.Codes.{link_number}
use Rattle.tidy_holders.proofs.entry.link_number.Goals as goal

pub returns-in-Left : goal.returns-in-Left
unfolding link_number
returns-in-Left c = simp c.in-Left.is (omega arith)

pub returns-in-Right : goal.returns-in-Right
unfolding link_number
returns-in-Right c = simp c.in-Right.is
