-- `marks::Marks::marked` meets its contract. Assumes nothing.
use Prim.Native.Nat.{ℕ, ◌/◌, ◌%◌}
use mathlib.Core.Path.{ap}
use lib.ListN.{get_or}
use lib.Dec.{eqb}
use Rattle.std.proofs.lemmas.Nat.Bits.{shr_and_one}
use Rattle.marks.specs.Marks.{bit_at}
use Rattle.marks.proofs.Marks.marked.Goals as goal

pub returns : goal.returns
unfolding bit_at
returns c =
    let k = c.args.k in
    rw (← c.self.view_is) (ap (λ (x : ℕ). eqb x 1) (shr_and_one (get_or c.self.inside.words (k / 64) 0) (k % 64)))
