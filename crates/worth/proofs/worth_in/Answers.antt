-- `worth::worth_in` meets its contract. Assumes nothing.
use native.Mathlib.Omega.{arith}
use Rattle.gate.proofs.Tables.{table_whole}
use Rattle.fork.proofs.Down.{root-hangs}
use Rattle.worth.proofs.Under.{worth-whole}
use Rattle.worth.proofs.worth_in.Goals as goal

pub top-above-requires : goal.top-above-requires
top-above-requires c = (_, root-hangs (table_whole c.args.table) c.root.ensures c.records-n.ensures)

pub fold_in-requires : goal.fold_in-requires
fold_in-requires c =
    let h = root-hangs (table_whole c.args.table) c.root.ensures c.records-n.ensures in (
      (table_whole c.args.table),
      record {
        few = omega (arith, c.records-n.ensures);
        most = omega (arith, h.most);
        over_it = c.top-above.ensures.1;
      },
    )

pub returns : goal.returns
returns c =
    worth-whole (table_whole c.args.table) c.root.ensures c.records-n.ensures c.top-above.ensures.0 c.fold_in.ensures
