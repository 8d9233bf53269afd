-- `fire::plan_in` meets its contract. Assumes nothing.
use mathlib.Core.Path.{sym, ◌∙◌}
use Rattle.scope.proofs.Errs.{named_so, unnamed, handed_on}
use Rattle.fire.proofs.Planned.{link-holder}
use Rattle.fire.proofs.plan_in.Goals as goal

pub aim_at-requires : goal.aim_at-requires
aim_at-requires c =
    let a = c.args in (c.requires, link-holder a.c a.holder a.side (named_so _ _ (sym c.of.ensures ∙ c.in_ok-link.was)))

pub returns-in_err-r : goal.returns-in_err-r
returns-in_err-r c =
    let none = unnamed _ _ (sym c.try_from.ensures ∙ c.in_err-r.was) in
    rw (handed_on _ c.from_residual.ensures.1, none.1) (record { is = simp none.0; may = tt })

pub returns-in_err-link : goal.returns-in_err-link
returns-in_err-link c =
    let r = named_so _ _ (sym c.try_from.ensures ∙ c.in_ok-r.was) in
    let none = unnamed _ _ (sym c.of.ensures ∙ c.in_err-link.was) in
    rw (handed_on _ c.from_residual-in_err-link.ensures.1, none.1) (record { is = simp (r, none.0); may = tt })

pub returns : goal.returns
returns c =
    let r = named_so _ _ (sym c.try_from.ensures ∙ c.in_ok-r.was) in
    let link = named_so _ _ (sym c.of.ensures ∙ c.in_ok-link.was) in
    record { is = simp (r, link) c.aim_at.ensures.is; may = c.aim_at.ensures.may }
