-- `sound::scan` and `sound::under` meet their contracts. Assumes nothing.
use native.Mathlib.Omega.{arith}
use Rattle.sound.proofs.Along.{along-start, along-spent, along-refused, along-left}
use Rattle.sound.proofs.Along.{along-spoiled, along-less, along-end, along-right}
use Rattle.sound.proofs.Steps.{at_end}
use Rattle.sound.proofs.+scan_under.Goals as goal

pub scan-loop-few-init : goal.scan-loop-few-init
scan-loop-few-init t c = let p = c.requires in along-start p.0 p.1

pub scan-returns-then-few-eq0 : goal.scan-returns-then-few-eq0
scan-returns-then-few-eq0 t c = along-spent c.loop-few.invariant c.args.m.now c.if-few-eq0.true

pub scan-visit-requires : goal.scan-visit-requires
scan-visit-requires t c = let v = c.loop-few.invariant in (v.there, v.scanning.looking)

pub scan-returns-in_err-here : goal.scan-returns-in_err-here
scan-returns-in_err-here t c =
    rw c.from_residual.ensures (along-refused c.loop-few.invariant c.args.m.now (rw c.in_err-here.was at c.visit.ensures))

pub scan-under-requires : goal.scan-under-requires
scan-under-requires t c =
    let v = c.loop-few.invariant in (
      omega (arith, c.decreases, v.fewer, c.if-few-eq0.false),
      along-left v (rw c.in_ok-here.was at c.visit.ensures),
    )

pub scan-returns-in_err-n : goal.scan-returns-in_err-n
scan-returns-in_err-n t c =
    let v = c.loop-few.invariant in
    let o = rw c.in_ok-here.was at c.visit.ensures in
    rw c.from_residual-in_err-n.ensures (along-spoiled v o c.args.m.now c.args.m.now (rw c.in_err-n.was at c.under.ensures))

pub scan-returns-then-here-eq0 : goal.scan-returns-then-here-eq0
scan-returns-then-here-eq0 t c =
    let v = c.loop-few.invariant in
    let o = rw c.in_ok-here.was at c.visit.ensures in
    along-end v o _ _ (rw c.in_ok-n.was at c.under.ensures) c.if-few-eq0.false c.if-here-eq0.true

pub scan-loop-few-smaller : goal.scan-loop-few-smaller
scan-loop-few-smaller t c =
    let v = c.loop-few.invariant in
    let o = rw c.in_ok-here.was at c.visit.ensures in
    along-less v o _ _ (rw c.in_ok-n.was at c.under.ensures) c.if-few-eq0.false

pub scan-loop-few-preserved : goal.scan-loop-few-preserved
scan-loop-few-preserved t c =
    let v = c.loop-few.invariant in
    let o = rw c.in_ok-here.was at c.visit.ensures in
    along-right v o _ _ (rw c.in_ok-n.was at c.under.ensures) c.if-few-eq0.false c.if-here-eq0.false

pub under-scan-requires : goal.under-scan-requires
under-scan-requires t c =
    (omega (arith, c.decreases), (omega (arith, c.if-x-eq0.false), c.requires))

pub under-returns-then-x-eq0 : goal.under-returns-then-x-eq0
under-returns-then-x-eq0 t c =
    at_end _ _ _ _ _ _ _ c.if-x-eq0.true

pub under-returns-else-x-eq0 : goal.under-returns-else-x-eq0
under-returns-else-x-eq0 t c = c.scan.ensures
