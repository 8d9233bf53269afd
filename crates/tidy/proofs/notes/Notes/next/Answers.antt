-- `tidy::notes::Notes::next` meets its contract. Assumes nothing.
use Rattle.scope.proofs.Errs.{named_so, unnamed}
use mathlib.Core.Path.{◌≡◌, sym, ◌∙◌}
use mathlib.Core.Bool.{true}
use Rattle.scope.specs.Tidy.{passes}
use Rattle.tidy_sight.proofs.Sights.{seen-passes}
use Rattle.tidy.proofs.Counting.{fewer}
use Rattle.tidy.proofs.Scanning.{none-next, none-within}
use Rattle.tidy.proofs.Scanning.{tried-on, unknown-not, here-present, next_here}
use Rattle.tidy.proofs.notes.Notes.next.Goals.{Then-due, in-Err, in-Ok+else-due}
use Rattle.tidy.proofs.notes.Notes.next.Goals as goal

pub returns-in_err-v-clause-next : goal.returns-in_err-v-clause-next
returns-in_err-v-clause-next c =
    rw c.from_residual.ensures (none-next c.slots.invariant.0 c.requires.whole.sized.most (rw c.in_err-v.was at c.lowest.ensures))

-- the rule that is due passes its test
passes-here : (c : Then-due) → passes true c.args.t.now c.args.c c.in_ok-v.v c.loop-n.n ≡ true
passes-here c =
    sym (seen-passes c.args.t.now c.args.c _ _ (named_so _ _ (sym c.try_from.ensures ∙ c.in-Ok.is)) c.slot_at-s.ensures
    c.look-left.ensures c.look-right.ensures c.on_side.ensures c.due.ensures)
    ∙ c.if-due.true

pub nodes-requires : goal.nodes-requires
nodes-requires c =
    let p = c.requires in
    let l = rw c.in_ok-v.was at c.lowest.ensures in
    here-present p.whole p.holds c.slots.invariant.0 l c.if-c-v.false
    c.loop-n.invariant c.loop-n.auto.n c.loop-n-test.true (named_so _ _ (sym c.try_from.ensures ∙ c.in-Ok.is))
    (passes-here (goal.at.nodes-requires c).Then-due) c.slot_at-s.ensures

pub loop-n-preserved : goal.loop-n-preserved
loop-n-preserved c =
    tried-on c.args.t.now c.args.c _ _ c.loop-n.invariant
    (elim c.match-try_from.branch [
      | in-Err w ↦ unknown-not c.args.t.now c.args.c _ _ (unnamed _ _ (sym c.try_from.ensures ∙ w.in-Err.is)).0
      | in-Ok+else-due w ↦ sym (seen-passes c.args.t.now c.args.c _ _ (named_so _ _ (sym c.try_from.ensures ∙ w.in-Ok.is))
          c.slot_at-s.ensures c.look-left.ensures c.look-right.ensures
          w.on_side.ensures w.due.ensures) ∙ w.if-due.false
    ])

pub slots-smaller : goal.slots-smaller
slots-smaller c =
    let l = rw c.in_ok-v.was at c.lowest.ensures in
    fewer c.strike.ensures l.inside l.listed

pub returns-then-c-v-clause-next : goal.returns-then-c-v-clause-next
returns-then-c-v-clause-next c =
    none-within c.slots.invariant.0 (rw c.in_ok-v.was at c.lowest.ensures) c.if-c-v.true

pub returns-then-due-clause-next : goal.returns-then-due-clause-next
returns-then-due-clause-next c =
    let p = c.requires in
    let l = rw c.in_ok-v.was at c.lowest.ensures in
    next_here p.whole p.holds c.slots.invariant.0 l c.if-c-v.false
    c.loop-n.invariant c.loop-n.auto.n c.loop-n-test.true (named_so _ _ (sym c.try_from.ensures ∙ c.in-Ok.is))
    (passes-here (goal.at.returns-then-due-clause-next c).Then-due) (rw c.slots.invariant.1 at c.link-link.ensures) c.nodes.ensures
