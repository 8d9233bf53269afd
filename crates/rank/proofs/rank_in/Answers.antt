-- `rank::rank_in` meets its contract. Assumes nothing.
use native.Mathlib.Omega.{arith}
use Rattle.scope.specs.Sums.{rank_of}
use Rattle.gate.proofs.Tables.{table_whole}
use Rattle.fork.proofs.Down.{root-hangs, said}
use Rattle.rank.proofs.Seeking.{rank-over, some-root}
use Rattle.rank.proofs.rank_in.Goals as goal

pub returns-then-n-r : goal.returns-then-n-r
returns-then-n-r c = rank-over (table_whole c.args.table) c.records-n.ensures c.if-n-r.true

pub rank_at-requires : goal.rank_at-requires
rank_at-requires c =
    let w = (table_whole c.args.table) in
    let some = some-root w c.records-n.ensures c.root.ensures (omega (arith, c.requires, c.if-n-r.false)) in
    (some, c.requires, root-hangs w c.root.ensures c.records-n.ensures)

pub returns-in-Break : goal.returns-in-Break
returns-in-Break c = said (table_whole c.args.table) c.root.ensures (rank_of c.args.r) c.in-Break.ensures.says

pub returns-in-Continue : goal.returns-in-Continue
returns-in-Continue c = said (table_whole c.args.table) c.root.ensures (rank_of c.args.r) c.in-Continue.ensures.says
