-- `tidy::notes::Notes::fire_next` meets its contract. Assumes nothing.
use native.Mathlib.Omega.{arith}
use Rattle.tidy.proofs.Firing.{may-act, v_most, above_most, nodes-around, at_above, at-upper, fired-so}
use Rattle.tidy.proofs.notes.Notes.fire_next.Goals as goal

pub above-upper-requires : goal.above-upper-requires
above-upper-requires c =
    let p = c.requires in omega (arith, v_most p, above_most p c.above-above.ensures)

pub act_and_note-requires : goal.act_and_note-requires
act_and_note-requires c = may-act c.requires

pub review_nodes-requires : goal.review_nodes-requires
review_nodes-requires c =
    nodes-around c.requires c.above-above.ensures
    c.above-upper.ensures c.act_and_note.ensures

pub review-requires : goal.review-requires
review-requires c =
    at_above c.requires c.above-above.ensures
    c.above-upper.ensures c.act_and_note.ensures c.review_nodes.ensures

pub review-requires-2 : goal.review-requires-2
review-requires-2 c =
    at-upper c.requires c.above-above.ensures
    c.above-upper.ensures c.act_and_note.ensures c.review_nodes.ensures c.review.ensures

pub returns : goal.returns
returns c =
    fired-so c.requires c.above-above.ensures
    c.above-upper.ensures c.act_and_note.ensures c.review_nodes.ensures
    c.review.ensures
    c.review-2.ensures
