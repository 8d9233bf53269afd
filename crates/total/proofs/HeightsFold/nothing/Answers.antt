-- `Heights` says 0 of the empty link. Assumes nothing.
use mathlib.Core.Path.{refl}
use Rattle.scope.specs.Tree.{true_height}
use Rattle.total.proofs.HeightsFold.nothing.Goals as goal

pub returns : goal.returns
unfolding true_height
returns c down = refl
