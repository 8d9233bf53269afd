-- `post::hang_at` meets its contract. Assumes nothing.
use Rattle.gate.proofs.Tables.{table_ready}
use Rattle.post.proofs.Hanging.{hang-none, hang-damaged, hang-last, hang-here}
use Rattle.post.proofs.hang_at.Goals as goal

pub returns-then-k-eq0 : goal.returns-then-k-eq0
returns-then-k-eq0 c = hang-none _ _ _ _ c.if-k-eq0.true

pub returns-then-change-lt-LAST_CHANGE : goal.returns-then-change-lt-LAST_CHANGE
returns-then-change-lt-LAST_CHANGE c =
    hang-here _ c.args.table.slots _ _ c.if-k-eq0.false c.slot_at.ensures c.blank.ensures
    c.records.ensures c.if-blank-records.true c.change.ensures (table_ready c.args.table, c.requires.0, c.requires.1) c.if-change-lt-LAST_CHANGE.true

pub returns-else-change-lt-LAST_CHANGE : goal.returns-else-change-lt-LAST_CHANGE
returns-else-change-lt-LAST_CHANGE c =
    hang-last _ _ _ _ c.if-k-eq0.false c.slot_at.ensures c.blank.ensures
    c.records.ensures c.if-blank-records.true c.change.ensures c.if-change-lt-LAST_CHANGE.false

pub returns-else-blank-records : goal.returns-else-blank-records
returns-else-blank-records c =
    hang-damaged _ _ _ _ c.if-k-eq0.false c.slot_at.ensures c.blank.ensures
    c.records.ensures c.if-blank-records.false
