-- `tidy_sight::quick::side_may_be_due` meets its contract. Assumes nothing.
use mathlib.Core.Path.{sym}
use Rattle.spelling.proofs.Laws.{in_table}
use Rattle.tidy_sight.specs.MayBeDue.{side_may_be_due}
use Rattle.tidy_sight.proofs.Sights.{named}
use Rattle.tidy_sight.proofs.Unlisted.{side-read}
use Rattle.tidy_sight.proofs.quick.side_may_be_due.Goals as goal

pub slot_at-su-requires : goal.slot_at-su-requires
slot_at-su-requires c =
    let k = named c.args.c _ c.if-u-c.true in
    in_table _ c.requires k.0 k.1

pub returns-then-u-c : goal.returns-then-u-c
returns-then-u-c c =
    let a = c.args in side-read a.t.now a.c a.s a.side c.son-u.ensures c.if-u-c.true
    c.seen-v.ensures c.slot_at-su.ensures
    c.heavy.ensures c.seen.ensures c.reliable.ensures

pub returns-else-u-c : goal.returns-else-u-c
unfolding side_may_be_due
returns-else-u-c c = simp (sym c.son-u.ensures, c.if-u-c.false)
