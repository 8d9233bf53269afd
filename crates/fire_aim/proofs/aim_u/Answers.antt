-- `fire_aim::aim_u` meets its contract. Assumes nothing.
use mathlib.Core.Path.{sym, ◌∙◌}
use Rattle.fire_aim.proofs.Aims.{aim-u-not, aim-u-third, aim-u-got}
use Rattle.fire_aim.proofs.Taking.{took}
use Rattle.scope.proofs.Errs.{handed_on}
use Rattle.scope.specs.Numbers.{other}
use Rattle.spelling.proofs.Laws.{fit-son}
use Rattle.fire_aim.proofs.aim_u.Goals as goal

pub take-requires : goal.take-requires
take-requires c = let p = c.requires in (p.0.sized, rw c.son-u.ensures p.1)

pub aim_w-requires : goal.aim_w-requires
aim_w-requires c =
    let a = c.args in
    let p = c.requires in
    let k = took _ _ _ _ _ _ (sym c.take.ensures ∙ c.in_ok-su.was) in
    (p.0, k.first, rw c.son-u.ensures p.1, fit-son a.c _ (other a.r.side) k.fit)

pub returns-in_err-su : goal.returns-in_err-su
returns-in_err-su c =
    let a = c.args in
    rw (handed_on _ c.from_residual.ensures.1)
    (aim-u-not c.requires.0 a.r a.sv _ c.son-u.ensures (sym c.take.ensures ∙ c.in_err-su.was))

pub returns-then-has_third : goal.returns-then-has_third
returns-then-has_third c =
    let a = c.args in aim-u-third c.requires.0 a.r a.sv _ c.son-u.ensures (sym c.take.ensures ∙ c.in_ok-su.was)
    (sym c.has_third.ensures ∙ c.if-has_third.true) c.aim_w.ensures

pub returns : goal.returns
returns c =
    let a = c.args in
    let p = c.requires in aim-u-got p.0 a.r a.sv _ c.son-u.ensures (rw c.son-u.ensures p.1)
    (sym c.take.ensures ∙ c.in_ok-su.was) (sym c.has_third.ensures ∙ c.if-has_third.false)
    c.judge.ensures
