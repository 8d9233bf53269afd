-- `fire_act::action::propagate` meets its contract. Assumes nothing.
use Rattle.fire_act.proofs.Actions.{propagate-written}
use Rattle.fire_act.proofs.action.propagate.Goals as goal

pub returns : goal.returns
returns c =
    let a = c.args in propagate-written a.t.now a.c a.n a.near c.seen.ensures c.localh.ensures
    c.put_height.ensures
