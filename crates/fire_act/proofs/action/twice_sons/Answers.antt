-- `fire_act::action::twice_sons` meets its contract. Assumes nothing.
use Rattle.fire_act.proofs.Actions.{sons-written}
use Rattle.fire_act.proofs.action.twice_sons.Goals as goal

pub returns : goal.returns
returns c =
    let a = c.args in sons-written a.t.now a.c a.n a.near c.other-far.ensures c.son.ensures
    c.son-2.ensures c.put_son.ensures c.put_son-2.ensures
