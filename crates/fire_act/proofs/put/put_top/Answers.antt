-- `fire_act::put::put_top` meets its contract. Assumes nothing.
use native.Mathlib.Omega.{arith}
use Rattle.scope.specs.Table.{link_at}
use Rattle.fire_act.proofs.Writes.{kept_set}
use Rattle.spelling.proofs.Laws.{link-lt}
use Rattle.fire_act.proofs.put.put_top.Goals as goal

pub put_link-requires : goal.put_link-requires
put_link-requires c = let p = c.requires in (omega arith, link-lt _ _ _ p.0 p.1)

pub returns : goal.returns
unfolding link_at
returns c =
    let a = c.args in
    let p = c.requires in kept_set a.t.now a.c _ a.k p.0 c.put_link.ensures
