-- `rank::rank_at` and `rank::rank_under` meet their contracts. Assumes nothing.
use Prim.Native.Nat.{◌+◌, ◌*◌}
use Rattle.rank.proofs.+rank_at_rank_under.Given as goal

abbrev pub decreases-rank_at : goal.decreases-rank_at
decreases-rank_at l = 2 * l.more

abbrev pub decreases-rank_under : goal.decreases-rank_under
decreases-rank_under l = 2 * l.more + 1
