-- `worth::own_weight` meets its contract. Assumes nothing.
use native.Mathlib.Omega.{arith}
use Rattle.worth.proofs.Weight.{own_eq, own-most}
use Rattle.worth.proofs.own_weight.Goals as goal

pub returns : goal.returns
returns c =
    let s = c.args.s in
    let light = c.requires in
    let e = own_eq s c.args.out c.args.above c.over.ensures c.carry-w.ensures.0 (omega (arith, c.from-p.ensures, c.abs_diff.ensures)) c.balance.ensures in
    let most = own-most s.lefth s.righth c.args.out c.args.above light.left light.right light.outside light.over_it in
    (e, omega (arith, e, most))
