-- `drop_plan::replacing` meets its contract. Assumes nothing.
use mathlib.Core.Path.{sym, ◌∙◌}
use Rattle.scope.proofs.Errs.{named_so, unnamed, denied_on}
use native.Mathlib.Omega.{arith}
use Rattle.gate.specs.AtSlot.{AtSlot}
use Rattle.gate.proofs.Tables.{table_ready}
use Rattle.drop_plan.proofs.replacing.Goals as goal

pub if_may-requires : goal.if_may-requires
if_may-requires c =
    let p = c.requires in
    let i = rw (named_so _ _ (sym c.ok_or.ensures.value ∙ c.in_ok-least.was)) at c.leftmost.ensures.inside in
    let at : AtSlot _ _ = record { slots = c.args.table.slots; ready = table_ready c.args.table; first = p.0; last = p.1 } in
    (omega arith, record { placed = at; inside = i })

pub returns-in_err-least : goal.returns-in_err-least
returns-in_err-least c =
    let none = unnamed _ _ (sym c.ok_or.ensures.value ∙ c.in_err-least.was) in
    rw (denied_on _ c.from_residual.ensures.1, none.1)
    (record { is = simp (sym c.leftmost.ensures.is, none.0); can = tt })

pub returns : goal.returns
returns c =
    simp (sym c.leftmost.ensures.is, named_so _ _ (sym c.ok_or.ensures.value ∙ c.in_ok-least.was)) c.if_may.ensures
