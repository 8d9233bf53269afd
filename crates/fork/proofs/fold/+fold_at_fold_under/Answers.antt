-- `fork::fold::fold_at` and `fork::fold::fold_under` meet their contracts. Assumes nothing.
use mathlib.Core.Path.{refl}
use native.Mathlib.Omega.{arith}
use borrow.Author.Rules.{rules}
use Rattle.fork.proofs.Down.{in_reach, forked, says-empty}
use Rattle.fork.proofs.Folding.{sides, said-joined}
use Rattle.fork.proofs.fold.+fold_at_fold_under.Goals as goal

pub fold_at-fork_at-f-requires : goal.fold_at-fork_at-f-requires
fold_at-fork_at-f-requires g t c = in_reach c.requires.1 c.requires.0

pub fold_at-overflow_sub-less : goal.fold_at-overflow_sub-less
fold_at-overflow_sub-less g t c = (forked c.requires.1 c.requires.0 c.fork_at-f.ensures).some

pub fold_at-fold_under-a-requires : goal.fold_at-fold_under-a-requires
fold_at-fold_under-a-requires g t c κs within =
    let d = forked c.requires.1 c.requires.0 c.fork_at-f.ensures in
    let on = g.met.F.Fold.borne c.args.it _ _ _ _ _ d c.requires.2 in
    (omega (arith, c.decreases, d.some), (search rules, (search rules, (search rules, (d.on_left, rw c.hand.ensures on.0)))))

pub fold_at-fold_under-b-requires : goal.fold_at-fold_under-b-requires
fold_at-fold_under-b-requires g t c κs within =
    let d = forked c.requires.1 c.requires.0 c.fork_at-f.ensures in
    let on = g.met.F.Fold.borne c.args.it _ _ _ _ _ d c.requires.2 in
    (omega (arith, c.decreases, d.some), (search rules, (search rules, (search rules, (d.on_right, rw c.hand-2.ensures on.1)))))

pub fold_at-join-requires : goal.fold_at-join-requires
fold_at-join-requires g t c =
    let d = forked c.requires.1 c.requires.0 c.fork_at-f.ensures in
    let r = g.F.Fold.handed c.args.it c.fork_at-f.result.slot.righth in
    sides (g.F.Fold.handed c.args.it) d c.requires.2 c.hand.ensures refl c.fold_under-a.ensures
    (says-empty _ _ (g.F.Fold.says c.args.it r) (c.nothing.ensures r) c.if-f-eq0.true)

pub fold_at-returns-then-f-eq0 : goal.fold_at-returns-then-f-eq0
fold_at-returns-then-f-eq0 g t c =
    let d = forked c.requires.1 c.requires.0 c.fork_at-f.ensures in
    let r = g.F.Fold.handed c.args.it c.fork_at-f.result.slot.righth in
    said-joined (g.F.Fold.handed c.args.it) d c.requires.2 c.hand.ensures refl c.fold_under-a.ensures
    (says-empty _ _ (g.F.Fold.says c.args.it r) (c.nothing.ensures r) c.if-f-eq0.true) c.join.ensures

pub fold_at-join-requires-2 : goal.fold_at-join-requires-2
fold_at-join-requires-2 g t c =
    let d = forked c.requires.1 c.requires.0 c.fork_at-f.ensures in
    sides (g.F.Fold.handed c.args.it) d c.requires.2 c.hand.ensures c.hand-2.ensures c.fold_under-a.ensures c.fold_under-b.ensures

pub fold_at-returns : goal.fold_at-returns
fold_at-returns g t c =
    let d = forked c.requires.1 c.requires.0 c.fork_at-f.ensures in
    said-joined (g.F.Fold.handed c.args.it) d c.requires.2 c.hand.ensures c.hand-2.ensures c.fold_under-a.ensures c.fold_under-b.ensures c.join-2.ensures

pub fold_under-fold_at-requires : goal.fold_under-fold_at-requires
fold_under-fold_at-requires g t c κs within =
    (omega (arith, c.decreases), (search rules, (search rules, (search rules, (omega (arith, c.if-x-eq0.false), c.requires.0, c.requires.1)))))

pub fold_under-returns-then-x-eq0 : goal.fold_under-returns-then-x-eq0
fold_under-returns-then-x-eq0 g t c =
    says-empty _ _ (g.F.Fold.says c.args.it c.args.down) (c.nothing.ensures c.args.down) c.if-x-eq0.true
