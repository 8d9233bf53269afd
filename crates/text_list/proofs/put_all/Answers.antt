-- `text_list::put_all` meets its contract. Assumes nothing.
use native.Mathlib.Omega.{arith}
use Rattle.gate.proofs.Tables.{table_whole}
use Rattle.in_order.proofs.Slots.{listed-few, listed-slot}
use Rattle.text_list.proofs.Records.{first-none, first_more, first-all}
use Rattle.text_list.proofs.put_all.Goals as goal

pub loop-k-init : goal.loop-k-init
loop-k-init c = first-none _ c.args.table.slots _ _

pub slot_at-requires : goal.slot_at-requires
slot_at-requires c = listed-slot (table_whole c.args.table) c.requires.0 c.loop-k.k-index c.loop-k-test.true

pub put_record-p-requires : goal.put_record-p-requires
put_record-p-requires c =
    let pre = c.requires in
    omega (arith, pre.1, c.loop-k.invariant.within, listed-few (table_whole c.args.table) pre.0, c.loop-k-test.true)

pub loop-k-preserved : goal.loop-k-preserved
loop-k-preserved c =
    first_more c.requires.0 c.loop-k.k-index c.loop-k-test.true c.loop-k.invariant
    (rw c.slot_at.ensures at c.put_record-p.ensures)

pub returns : goal.returns
returns c =
    let pre = c.requires in
    first-all pre.0 (table_whole c.args.table) c.loop-k.k-index (omega (arith, c.loop-k-test.false)) c.loop-k.invariant
