-- `Loads` says of the empty link that nothing weighs nothing. Assumes nothing.
use Rattle.worth.proofs.Under.{load-leaf}
use Rattle.worth.proofs.LoadsFold.nothing.Goals as goal

pub returns : goal.returns
returns c above = load-leaf c.args.self.n above
