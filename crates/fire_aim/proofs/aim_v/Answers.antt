-- `fire_aim::aim_v` meets its contract. Assumes nothing.
use mathlib.Core.Path.{sym, ◌∙◌}
use native.Mathlib.Omega.{arith}
use Rattle.fire_aim.proofs.Aims.{aim-v-not, aim-v-near, aim-v-got}
use Rattle.scope.proofs.Errs.{handed_on}
use Rattle.spelling.proofs.Laws.{link-lt}
use Rattle.fire_aim.proofs.aim_v.Goals as goal

pub link_at-v-requires : goal.link_at-v-requires
link_at-v-requires c = let p = c.requires in (omega arith, link-lt _ _ _ p.sized p.holder)

pub take-requires : goal.take-requires
take-requires c = let p = c.requires in (p.sized, rw c.link_at-v.ensures p.holds)

pub aim_u-requires : goal.aim_u-requires
aim_u-requires c =
    aim-v-near c.requires c.args.r _ c.link_at-v.ensures (sym c.take.ensures ∙ c.in_ok-sv.was)

pub returns : goal.returns
returns c =
    aim-v-got c.requires c.args.r _ c.link_at-v.ensures
    (sym c.take.ensures ∙ c.in_ok-sv.was) c.aim_u.ensures

pub returns-in_err-sv : goal.returns-in_err-sv
returns-in_err-sv c =
    rw (handed_on _ c.from_residual.ensures.1)
    (aim-v-not c.requires c.args.r _ c.link_at-v.ensures (sym c.take.ensures ∙ c.in_err-sv.was))
