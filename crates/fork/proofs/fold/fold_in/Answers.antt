-- `fork::fold::fold_in` meets its contract. Assumes nothing.
use mathlib.Core.Path.{◌∙◌}
use native.Mathlib.Omega.{arith}
use Rattle.fork.proofs.Down.{root-hangs, said, says-leaf}
use Rattle.fork.proofs.fold.fold_in.Goals as goal

pub fold_at-requires : goal.fold_at-requires
fold_at-requires g c = (
  omega (arith, c.if-root-eq0.false),
  root-hangs c.requires.0 c.root-root.ensures c.records-n.ensures,
  rw c.records-n.ensures c.requires.1,
)

pub returns-then-root-eq0 : goal.returns-then-root-eq0
returns-then-root-eq0 g c =
    let what = g.F.Fold.says c.args.it c.args.down in
    c.nothing.ensures c.args.down ∙ said c.requires.0 c.root-root.ensures what (says-leaf _ _ what c.if-root-eq0.true)

pub returns-else-root-eq0 : goal.returns-else-root-eq0
returns-else-root-eq0 g c =
    said c.requires.0 c.root-root.ensures (g.F.Fold.says c.args.it c.args.down) c.fold_at.ensures
