-- `fire_act::action::twice_heights` meets its contract. Assumes nothing.
use Rattle.fire_act.proofs.Actions.{twice-written}
use Rattle.fire_act.proofs.action.twice_heights.Goals as goal

pub returns : goal.returns
returns c =
    let a = c.args in twice-written a.t.now a.c a.n a.near c.other.ensures c.seen-v.ensures c.seen-u.ensures
    c.seen-w.ensures c.over.ensures c.over-2.ensures c.put_height.ensures
    c.put_height-2.ensures
