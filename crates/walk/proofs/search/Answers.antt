-- `walk::search` meets its contract: the invariant is that the whole walk is what is still to be walked (`Heading`),
use mathlib.Core.Path.{ap}
use mathlib.Core.Bool.{not}
use native.Mathlib.Omega.{arith}
use Rattle.spelling.proofs.Laws.{in_table}
use Rattle.gate.proofs.Tables.{table_ready}
use Rattle.walk.proofs.Visits.{begins, ends-empty, ends-broken, ends-here, one_more, passes_on}
use Rattle.walk.proofs.search.Goals as goal

-- and each way on or out is one law of it. Assumes nothing.

pub loop-at-init : goal.loop-at-init
loop-at-init c = rw c.root-at.ensures (begins (table_ready c.args.table))

pub slot_at-s-requires : goal.slot_at-s-requires
slot_at-s-requires c =
    let r = table_ready c.args.table in in_table _ r.sized (omega (arith, c.if-at-eq0.false)) c.loop-at.invariant.at_le

pub overflow_add-seen : goal.overflow_add-seen
overflow_add-seen c =
    omega (arith, c.loop-at.invariant.seen_le, (table_ready c.args.table).sized.most)

pub visit_ok-requires : goal.visit_ok-requires
visit_ok-requires c =
    ((table_ready c.args.table).sized.most, omega (arith, c.loop-at.invariant.seen_le))

pub loop-at-smaller : goal.loop-at-smaller
loop-at-smaller c =
    let more =
    one_more c.loop-at.invariant c.if-at-eq0.false c.slot_at-s.ensures c.way-side.ensures
    c.son-next.ensures c.visit_ok.ensures (ap not c.if-not-visit_ok.false) in
    omega (arith, more)

pub loop-at-preserved : goal.loop-at-preserved
loop-at-preserved c =
    passes_on c.loop-at.invariant c.if-at-eq0.false c.slot_at-s.ensures c.way-side.ensures
    c.son-next.ensures c.visit_ok.ensures (ap not c.if-not-visit_ok.false) c.if-key-s.false c.pass-passed.ensures

pub returns-then-at-eq0 : goal.returns-then-at-eq0
returns-then-at-eq0 c = ends-empty c.loop-at.invariant c.if-at-eq0.true

pub returns-then-not-visit_ok : goal.returns-then-not-visit_ok
returns-then-not-visit_ok c =
    ends-broken c.loop-at.invariant c.if-at-eq0.false c.slot_at-s.ensures c.way-side.ensures
    c.son-next.ensures c.visit_ok.ensures (ap not c.if-not-visit_ok.true)

pub returns-then-key-s : goal.returns-then-key-s
returns-then-key-s c =
    ends-here c.loop-at.invariant c.if-at-eq0.false c.slot_at-s.ensures c.way-side.ensures
    c.son-next.ensures c.visit_ok.ensures (ap not c.if-not-visit_ok.false) c.if-key-s.true
