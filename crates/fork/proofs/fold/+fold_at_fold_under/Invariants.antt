-- `fork::fold::fold_at` and `fork::fold::fold_under` meet their contracts. Assumes nothing.
use Prim.Native.Nat.{◌+◌, ◌*◌}
use Rattle.fork.proofs.fold.+fold_at_fold_under.Given as goal

abbrev pub decreases-fold_at : goal.decreases-fold_at
decreases-fold_at g l = 2 * l.more

abbrev pub decreases-fold_under : goal.decreases-fold_under
decreases-fold_under g l = 2 * l.more + 1
