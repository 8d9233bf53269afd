-- `sound::visit` meets its contract. Assumes nothing.
use Rattle.sound.proofs.Steps.{twice, misplaced, slot-entered}
use Rattle.sound.proofs.visit.Goals as goal

pub returns-then-marked : goal.returns-then-marked
returns-then-marked c = twice c.marked.ensures c.if-marked.true

pub returns-then-in_place : goal.returns-then-in_place
returns-then-in_place c =
    slot-entered c.marked.ensures c.slot_at-s.ensures
    c.in_place.ensures c.if-marked.false c.if-in_place.true
    c.mark.ensures c.from-key.ensures

pub returns-else-in_place : goal.returns-else-in_place
returns-else-in_place c =
    misplaced c.marked.ensures c.slot_at-s.ensures
    c.in_place.ensures c.if-in_place.false
