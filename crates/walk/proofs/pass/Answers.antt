-- `walk::pass` meets its contract. Assumes nothing.
use Rattle.walk.proofs.pass.Goals as goal

pub returns-in-Left : goal.returns-in-Left
returns-in-Left c = simp c.in-Left.is

pub returns-in-Right : goal.returns-in-Right
returns-in-Right c = simp c.in-Right.is
