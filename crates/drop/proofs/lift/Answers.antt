-- `drop::lift` meets its contract. Assumes nothing.
use Rattle.drop.proofs.Written.{lifted_by}
use Rattle.drop.proofs.lift.Goals as goal

pub returns : goal.returns
returns c =
    lifted_by _ _ _ c.records-count.ensures c.change-change.ensures _
    c.relink.ensures c.vacate.ensures
