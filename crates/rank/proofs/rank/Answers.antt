-- `rank::rank` meets its contract: the gate let in no rank 0. Assumes nothing.
use mathlib.Core.Path.{refl}
use native.Mathlib.Omega.{arith}
use lib.Dec.{eqb}
use borrow.Author.Tests.{eqb-false, not-true}
use Rattle.spelling.proofs.Opened.{was-asked}
use Rattle.rank.proofs.rank.Goals as goal

pub rank_in-requires : goal.rank_in-requires
rank_in-requires c =
    let r = c.args.r in
    let some = eqb-false r 0 (not-true (eqb r 0) (was-asked _ _ _ refl (rw c.in-Ok.is at c.enter_sound.ensures).0)) in
    omega arith
