-- `gate::tests::ends_ok` meets its contract. Assumes nothing.
use Rattle.gate.proofs.Fitting.{ends-together}
use Rattle.gate.proofs.tests.ends_ok.Goals as goal

pub returns : goal.returns
returns c = ends-together c.args.s.state c.args.s.last
