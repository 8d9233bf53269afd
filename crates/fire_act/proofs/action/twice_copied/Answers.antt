-- `fire_act::action::twice_copied` meets its contract. Assumes nothing.
use Rattle.fire_act.proofs.Actions.{copied-written}
use Rattle.fire_act.proofs.action.twice_copied.Goals as goal

pub returns : goal.returns
returns c =
    let a = c.args in copied-written a.t.now a.c a.n a.near c.other.ensures c.seen-w.ensures
    c.put_height.ensures c.put_height-2.ensures
