-- `drop_plan::leftmost` meets its contract. Assumes nothing.
use Prim.Native.Nat.{ℕ, ◌+◌, ◌-◌}
use mathlib.Core.Path.{◌≡◌, ap}
use native.Mathlib.Omega.{arith}
use Rattle.scope.specs.Drop.{leftmost_from}
use Rattle.spelling.proofs.Laws.{in_table}
use Rattle.gate.proofs.Tables.{table_ready}
use Rattle.drop_plan.proofs.Descending.{Descending, down-spent, down-unfit, down-here, down-on}
use Rattle.drop_plan.proofs.leftmost.Goals as goal

pub loop-visit-init : goal.loop-visit-init
loop-visit-init c =
    let p = c.requires in
    let a = c.args in
    let e : a.most - 0 ≡ a.most = omega arith in
    record {
      rest = ap (λ (n : ℕ). leftmost_from n a.table.words.now a.table.slots a.slot a.link) e;
      first = p.0;
      last = p.1;
      holder = p.2;
    }

pub slot_at-s-requires : goal.slot_at-s-requires
slot_at-s-requires c =
    in_table _ (table_ready c.args.table).sized c.loop-visit.invariant.first c.loop-visit.invariant.last

pub returns-then-not-fit : goal.returns-then-not-fit
returns-then-not-fit c =
    down-unfit c.loop-visit.invariant (λ z. omega (arith, z, c.loop-visit-test.true)) c.slot_at-s.ensures c.fit.ensures
    c.if-not-fit.true

pub returns-then-next-eq0 : goal.returns-then-next-eq0
returns-then-next-eq0 c =
    down-here c.loop-visit.invariant (λ z. omega (arith, z, c.loop-visit-test.true)) c.slot_at-s.ensures c.fit.ensures
    c.if-not-fit.false c.if-next-eq0.true

pub loop-visit-preserved : goal.loop-visit-preserved
loop-visit-preserved c =
    let d =
    down-on c.loop-visit.invariant (λ z. omega (arith, z, c.loop-visit-test.true)) c.slot_at-s.ensures c.fit.ensures
    c.if-not-fit.false c.if-next-eq0.false in
    let e : (c.args.most - c.loop-visit._visit) - 1 ≡ c.args.most - (c.loop-visit._visit + 1) = omega arith in
    rw e at d

pub returns : goal.returns
returns c = down-spent c.loop-visit.invariant (omega (arith, c.loop-visit-test.false))
