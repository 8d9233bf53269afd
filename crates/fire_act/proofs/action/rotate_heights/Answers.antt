-- `fire_act::action::rotate_heights` meets its contract. Assumes nothing.
use Rattle.fire_act.proofs.Actions.{heights-written}
use Rattle.fire_act.proofs.action.rotate_heights.Goals as goal

pub returns : goal.returns
returns c =
    let a = c.args in heights-written a.t.now a.c a.n a.near c.other-far.ensures c.seen-v.ensures
    c.seen-u.ensures c.over.ensures c.put_height.ensures c.put_height-2.ensures
