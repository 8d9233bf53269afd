-- `Pieces` joins what it says of two sides. Assumes nothing.
use native.Mathlib.Omega.{arith}
use Rattle.total.proofs.Walks.{here-few, pieces-here}
use Rattle.total.proofs.PiecesFold.join.Goals as goal

pub overflow_add-result : goal.overflow_add-result
overflow_add-result c =
    let s = c.requires in
    omega (arith, s.fork.most, here-few s.fork c.args.self.key s.on_left s.on_right c.counted.ensures)

pub overflow_add-result-2 : goal.overflow_add-result-2
overflow_add-result-2 c =
    let s = c.requires in
    omega (arith, s.fork.most, here-few s.fork c.args.self.key s.on_left s.on_right c.counted.ensures)

pub returns : goal.returns
returns c s = pieces-here s.fork c.args.self.key s.on_left s.on_right c.counted.ensures (omega arith)
