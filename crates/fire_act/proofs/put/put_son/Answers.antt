-- `fire_act::put::put_son` meets its contract. Assumes nothing.
use native.Mathlib.Omega.{arith}
use Rattle.scope.specs.Table.{link_at}
use Rattle.fire_act.proofs.Writes.{kept_set}
use Rattle.spelling.proofs.Laws.{link-lt}
use Rattle.fire_act.proofs.put.put_son.Goals as goal

pub put_link-requires : goal.put_link-requires
put_link-requires c = let p = c.requires in (omega arith, link-lt _ _ _ p.sized p.most)

pub returns : goal.returns
unfolding link_at
returns c =
    let a = c.args in
    let p = c.requires in kept_set a.t.now a.c _ a.son p.sized c.put_link.ensures
