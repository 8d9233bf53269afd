-- `drop_plan::drop_at` meets its contract. Assumes nothing.
use mathlib.Core.Path.{sym}
use native.Mathlib.Omega.{arith}
use borrow.Author.Tests.{eq-eqb, ne_eqb}
use Rattle.scope.specs.Drop.{drop_at}
use Rattle.scope.specs.declared.side.Side.TheVariants.{Left, Right}
use Rattle.spelling.proofs.Laws.{in_table}
use Rattle.drop_plan.proofs.Plans.{read-son, aim-lift}
use Rattle.drop_plan.proofs.drop_at.Goals as goal

pub slot_at-s-requires : goal.slot_at-s-requires
slot_at-s-requires c = let p = c.requires in in_table _ p.ready.sized p.first p.last

pub if_may-requires : goal.if_may-requires
if_may-requires c =
    let p = c.requires in (omega arith, aim-lift p (read-son p Right c.slot_at-s.ensures))

pub returns-then-left-eq0 : goal.returns-then-left-eq0
unfolding drop_at
returns-then-left-eq0 c =
    simp (
      sym c.slot_at-s.ensures,
      eq-eqb _ _ c.if-left-eq0.true,
    )
    c.if_may.ensures

pub if_may-requires-then-right-eq0 : goal.if_may-requires-then-right-eq0
if_may-requires-then-right-eq0 c =
    let p = c.requires in (omega arith, aim-lift p (read-son p Left c.slot_at-s.ensures))

pub returns-then-right-eq0 : goal.returns-then-right-eq0
unfolding drop_at
returns-then-right-eq0 c =
    simp (
      sym c.slot_at-s.ensures,
      ne_eqb _ _ c.if-left-eq0.false,
      eq-eqb _ _ c.if-right-eq0.true,
    )
    c.if_may-then-right-eq0.ensures

pub replacing-requires : goal.replacing-requires
replacing-requires c =
    let p = c.requires in (p.first, p.last, omega arith, read-son p Right c.slot_at-s.ensures)

pub returns : goal.returns
unfolding drop_at
returns c =
    simp (
      sym c.slot_at-s.ensures,
      ne_eqb _ _ c.if-left-eq0.false,
      ne_eqb _ _ c.if-right-eq0.false,
    )
    c.replacing.ensures
