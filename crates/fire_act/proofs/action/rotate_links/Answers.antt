-- `fire_act::action::rotate_links` meets its contract. Assumes nothing.
use Rattle.fire_act.proofs.Actions.{links-written}
use Rattle.fire_act.proofs.action.rotate_links.Goals as goal

pub returns : goal.returns
returns c =
    let a = c.args in links-written a.t.now a.c a.n a.near c.other-far.ensures c.son.ensures
    c.put_top.ensures c.put_son.ensures c.put_son-2.ensures
