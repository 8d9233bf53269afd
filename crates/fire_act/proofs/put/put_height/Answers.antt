-- `fire_act::put::put_height` meets its contract. Assumes nothing.
use native.Mathlib.Omega.{arith}
use Rattle.fire_act.proofs.Writes.{register-at, kept_set}
use Rattle.spelling.proofs.Laws.{register-lt}
use Rattle.fire_act.proofs.put.put_height.Goals as goal

pub put_register-requires : goal.put_register-requires
put_register-requires c =
    let p = c.requires in (p.first, omega arith, register-lt _ _ _ c.args.side p.sized p.first p.most)

pub returns : goal.returns
returns c =
    let a = c.args in
    let p = c.requires in rw (register-at a.k a.side p.first)
    (kept_set a.t.now a.c _ a.height p.sized c.put_register.ensures)
