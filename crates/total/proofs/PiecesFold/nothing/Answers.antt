-- `Pieces` says 0 of the empty link. Assumes nothing.
use mathlib.Core.Path.{refl}
use Rattle.scope.specs.Sums.{total_of}
use Rattle.total.proofs.PiecesFold.nothing.Goals as goal

pub returns : goal.returns
unfolding total_of
returns c down = refl
