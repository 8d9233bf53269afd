-- `tidy::call::tidy` meets its contract. Assumes nothing.
use mathlib.Core.Path.{sym, ◌∙◌, ap, subst}
use mathlib.Core.List.{List}
use Prim.Native.Nat.{ℕ}
use Rattle.spelling.specs.Whole.{Whole}
use Rattle.scope.specs.Answers.{Done}
use Rattle.gate.proofs.Tables.{table_whole}
use Rattle.tidy.proofs.Outcome.{tidy-shut, tidy-open}
use Rattle.tidy.proofs.call.tidy.Goals as goal

pub tidied-requires : goal.tidied-requires
tidied-requires c =
    let e = (rw c.in-Ok.is at c.enter_sound.ensures).1 in
    subst (λ (u : List ℕ). Whole u c.in-Ok.table.slots) e (table_whole c.in-Ok.table)

pub returns-in-Err : goal.returns-in-Err
returns-in-Err c =
    let a = c.args in
    let e = sym
    (tidy-shut a.t.now a.budget (rw c.in-Err.is at c.enter_sound.ensures)) in
    (c.refuse.ensures ∙ ap (λ (d : Done). d.answer) e, ap (λ (d : Done). d.words) e)

pub returns-in-Ok : goal.returns-in-Ok
returns-in-Ok c =
    let a = c.args in
    tidy-open a.t.now a.budget (rw c.in-Ok.is at c.enter_sound.ensures).0 c.tidied.ensures
