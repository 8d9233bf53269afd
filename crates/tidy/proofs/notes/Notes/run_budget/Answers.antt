-- `tidy::notes::Notes::run_budget` meets its contract. Assumes nothing.
use Rattle.tidy.proofs.Going.{going-none, going-spent, going-fire, going_on}
use Rattle.tidy.proofs.notes.Notes.run_budget.Goals as goal

pub fire_next-requires : goal.fire_next-requires
fire_next-requires c =
    let at = rw c.in-Some.is at c.next.ensures in
    going-fire c.loop-rule.invariant c.next.new.self at.holders at.next

pub loop-rule-preserved : goal.loop-rule-preserved
loop-rule-preserved c =
    let at = rw c.in-Some.is at c.next.ensures in
    going_on c.loop-rule.invariant c.next.new.self at.holders at.next c.if-made-budget.false
    c.fire_next.ensures

pub returns-in-None : goal.returns-in-None
returns-in-None c =
    going-none c.loop-rule.invariant (rw c.in-None.is at c.next.ensures).next

pub returns-then-made-budget : goal.returns-then-made-budget
returns-then-made-budget c =
    let at = rw c.in-Some.is at c.next.ensures in
    going-spent c.loop-rule.invariant c.next.new.self at.holders at.next c.if-made-budget.true
