-- `gate::tests::spare` meets its contract. Assumes nothing.
use mathlib.Core.Path.{refl}
use Rattle.gate.proofs.tests.spare.Goals as goal

pub returns : goal.returns
returns c = refl
