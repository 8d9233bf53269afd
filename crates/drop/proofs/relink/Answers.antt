-- `drop::relink` meets its contract. Assumes nothing.
use mathlib.Core.Path.{sym}
use native.Mathlib.Omega.{arith}
use Rattle.scope.specs.Drop.{relinked}
use Rattle.spelling.proofs.Laws.{link-lt, register-lt}
use Rattle.drop.proofs.Relinking.{held_by_lem}
use Rattle.drop.proofs.relink.Goals as goal

pub put_link-requires : goal.put_link-requires
put_link-requires c =
    let p = c.requires in (omega arith, link-lt _ _ _ p.sized p.held)

pub returns-then-son-holder : goal.returns-then-son-holder
unfolding relinked
returns-then-son-holder c = simp c.if-son-holder.true c.put_link.ensures

pub put_register-requires : goal.put_register-requires
put_register-requires c =
    let p = c.requires in
    let l = c.args.link in
    let h = held_by_lem c.args.son l.holder c.if-son-holder.false in
    (h, omega arith, omega (arith, register-lt _ _ _ l.side p.sized h p.held))

pub returns : goal.returns
unfolding relinked
returns c =
    simp (c.if-son-holder.false, sym c.put_link.ensures) c.put_register.ensures
