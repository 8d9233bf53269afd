-- `rank::rank_at` and `rank::rank_under` meet their contracts. Assumes nothing.
use native.Mathlib.Omega.{arith}
use Rattle.fork.proofs.Down.{in_reach, forked}
use Rattle.rank.proofs.Seeking.{rank-leaf, seek-left, still-wanted, seek_found, seek-right}
use Rattle.rank.proofs.+rank_at_rank_under.Goals as goal

pub rank_at-fork_at-f-requires : goal.rank_at-fork_at-f-requires
rank_at-fork_at-f-requires t c = in_reach c.requires.2 c.requires.0

pub rank_at-overflow_sub-less : goal.rank_at-overflow_sub-less
rank_at-overflow_sub-less t c = (forked c.requires.2 c.requires.0 c.fork_at-f.ensures).some

pub rank_at-rank_under-requires : goal.rank_at-rank_under-requires
rank_at-rank_under-requires t c =
    let d = forked c.requires.2 c.requires.0 c.fork_at-f.ensures in
    (omega (arith, c.decreases, d.some), (c.requires.1, d.on_left))

pub rank_at-returns-in_err-n : goal.rank_at-returns-in_err-n
rank_at-returns-in_err-n t c =
    let d = forked c.requires.2 c.requires.0 c.fork_at-f.ensures in
    rw c.from_residual.ensures (seek-left d c.requires.1 c.in_err-n.ensures)

pub rank_at-returns-then-n-eq1 : goal.rank_at-returns-then-n-eq1
rank_at-returns-then-n-eq1 t c =
    let d = forked c.requires.2 c.requires.0 c.fork_at-f.ensures in
    seek_found d c.requires.1 c.in_ok-n.ensures c.if-n-eq1.true

pub rank_at-overflow_sub-n : goal.rank_at-overflow_sub-n
rank_at-overflow_sub-n t c =
    let d = forked c.requires.2 c.requires.0 c.fork_at-f.ensures in
    still-wanted d c.requires.1 c.in_ok-n.ensures

pub rank_at-rank_under-requires-2 : goal.rank_at-rank_under-requires-2
rank_at-rank_under-requires-2 t c =
    let d = forked c.requires.2 c.requires.0 c.fork_at-f.ensures in
    let some = still-wanted d c.requires.1 c.in_ok-n.ensures in
    (omega (arith, c.decreases, d.some), (omega (arith, some, c.if-n-eq1.false), d.on_right))

pub rank_at-returns : goal.rank_at-returns
rank_at-returns t c =
    let d = forked c.requires.2 c.requires.0 c.fork_at-f.ensures in
    seek-right d c.requires.1 c.in_ok-n.ensures c.if-n-eq1.false c.rank_under-2.result c.rank_under-2.ensures

pub rank_under-rank_at-requires : goal.rank_under-rank_at-requires
rank_under-rank_at-requires t c =
    (omega (arith, c.decreases), (omega (arith, c.if-x-eq0.false), c.requires.0, c.requires.1))

pub rank_under-returns-then-x-eq0 : goal.rank_under-returns-then-x-eq0
rank_under-returns-then-x-eq0 t c = rank-leaf _ _ _ c.requires.0 c.if-x-eq0.true
