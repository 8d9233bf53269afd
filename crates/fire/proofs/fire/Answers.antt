-- `fire::fire` meets its contract. Assumes nothing.
use mathlib.Core.Path.{sym, ◌∙◌, ap}
use native.Mathlib.Omega.{arith}
use Rattle.scope.proofs.Errs.{named_so, unnamed}
use Rattle.fire.proofs.Planned.{fire-shut, fire-refused, fire-fired}
use Rattle.spelling.proofs.Laws.{slots_sized}
use Rattle.scope.specs.Answers.{Done}
use Rattle.fire.proofs.fire.Goals as goal

pub plan_in-requires : goal.plan_in-requires
plan_in-requires c =
    slots_sized c.args.t.now _ _ (sym c.capacity.ensures ∙ c.in-Ok.is)

pub change-change-requires : goal.change-change-requires
change-change-requires c =
    let s = slots_sized c.args.t.now _ _ (sym c.capacity.ensures ∙ c.in-Ok.is) in
    omega (arith, s.room, s.some)

pub act-requires : goal.act-requires
act-requires c = (
  slots_sized c.args.t.now _ _ (sym c.capacity.ensures ∙ c.in-Ok.is),
  rw c.in-Ok-plan_in.is at
      c.plan_in.ensures.may,
)

pub returns-in-Err : goal.returns-in-Err
returns-in-Err c =
    let a = c.args in
    let none = unnamed _ _ (sym c.capacity.ensures ∙ c.in-Err.is) in
    let e = sym (fire-shut a.t.now a.rule a.holder a.side none.0) in
    (rw none.1 at c.refuse.ensures ∙ ap (λ (d : Done). d.answer) e, ap (λ (d : Done). d.words) e)

pub returns-in-Err-plan_in : goal.returns-in-Err-plan_in
returns-in-Err-plan_in c =
    let a = c.args in
    let e = sym (fire-refused a.t.now a.rule a.holder a.side
    (named_so _ _ (sym c.capacity.ensures ∙ c.in-Ok.is))
    (sym c.in-Err-plan_in.is ∙ c.plan_in.ensures.is)) in
    (c.refuse-in-Err-plan_in.ensures ∙ ap (λ (d : Done). d.answer) e, ap (λ (d : Done). d.words) e)

pub returns-in-Ok-plan_in : goal.returns-in-Ok-plan_in
returns-in-Ok-plan_in c =
    let a = c.args in
    let e = sym (fire-fired a.t.now a.rule a.holder a.side
    (named_so _ _ (sym c.capacity.ensures ∙ c.in-Ok.is)) (sym c.in-Ok-plan_in.is ∙ c.plan_in.ensures.is)) in (
      c.accept.ensures ∙ simp (c.from.ensures, c.change-change.ensures) (ap (λ (d : Done). d.answer) e),
      c.act.ensures.is ∙ ap (λ (d : Done). d.words) e,
    )
