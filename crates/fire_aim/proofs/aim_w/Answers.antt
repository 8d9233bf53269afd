-- `fire_aim::aim_w` meets its contract. Assumes nothing.
use mathlib.Core.Path.{sym, ◌∙◌, ap}
use Rattle.fire_aim.proofs.Aims.{aim-w-not, aim-w-got}
use Rattle.scope.proofs.Errs.{handed_on}
use Rattle.scope.specs.Table.{son}
use Rattle.fire_aim.proofs.aim_w.Goals as goal

pub take-requires : goal.take-requires
take-requires c = let p = c.requires in (p.0.sized, simp (c.son-w.ensures, c.other.ensures) p.3)

pub returns-in_err-sw : goal.returns-in_err-sw
returns-in_err-sw c =
    let a = c.args in
    let e = handed_on _ c.from_residual.ensures.1 in
    rw e (aim-w-not c.requires.0 a.r a.sv a.u a.su _ (c.son-w.ensures ∙ ap (son a.su) c.other.ensures) (sym c.take.ensures ∙ c.in_err-sw.was))

pub returns : goal.returns
returns c =
    let a = c.args in
    let p = c.requires in
    let e = c.son-w.ensures ∙ ap (son a.su) c.other.ensures in
    aim-w-got p.0 a.r a.sv a.u a.su _ e p.1 p.2 (rw e p.3)
    (sym c.take.ensures ∙ c.in_ok-sw.was) c.judge.ensures
