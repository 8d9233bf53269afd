-- `panel::ftk_post` meets its contract. Assumes nothing.
use Rattle.panel.proofs.Given.{given}
use Rattle.panel.proofs.ftk_post.Goals as goal

pub returns : goal.returns
returns c = given c.five.ensures c.post.ensures
