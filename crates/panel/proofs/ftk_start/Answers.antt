-- `panel::ftk_start` meets its contract. Assumes nothing.
use Rattle.panel.proofs.Given.{given}
use Rattle.panel.proofs.ftk_start.Goals as goal

pub returns : goal.returns
returns c = given c.five.ensures c.start.ensures
