-- `Heights` joins what it says of two sides. Assumes nothing.
use native.Mathlib.Omega.{arith}
use Rattle.total.proofs.Walks.{heights-few, height-here}
use Rattle.total.proofs.HeightsFold.join.Goals as goal

pub overflow_add-result : goal.overflow_add-result
overflow_add-result c =
    let s = c.requires in omega (arith, c.max.ensures, heights-few s.fork s.on_left s.on_right)

pub returns : goal.returns
returns c s = height-here s.fork s.on_left s.on_right (omega (arith, c.max.ensures))
