-- `drop::drop` meets its contract. Assumes nothing.
use mathlib.Core.Path.{refl, ap, ◌∙◌}
use Rattle.std.specs.Prelude.{Ok}
use Rattle.scope.specs.Drop.{drop_of, dropped}
use Rattle.gate.proofs.Carried.{carried}
use Rattle.drop.proofs.drop.Goals as goal

pub lift-requires : goal.lift-requires
lift-requires c =
    rw (c.in-Ok-Lift.is, c.in-Ok-Lift.field-0-is) at c.plan_drop.ensures.can

pub replace-requires : goal.replace-requires
replace-requires c =
    rw (c.in-Ok-Replace.is, c.in-Ok-Replace.field-0-is) at c.plan_drop.ensures.can

pub returns-in-Err : goal.returns-in-Err
unfolding drop_of dropped
returns-in-Err c =
    carried (dropped _) c.plan_drop.ensures.is c.in-Err.is (c.deny.ensures, refl)

pub returns-in-Ok-Lift : goal.returns-in-Ok-Lift
unfolding drop_of
returns-in-Ok-Lift c =
    carried (dropped _) c.plan_drop.ensures.is (c.in-Ok-Lift.is ∙ ap Ok c.in-Ok-Lift.field-0-is)
    c.lift.ensures

pub returns-in-Ok-Replace : goal.returns-in-Ok-Replace
unfolding drop_of
returns-in-Ok-Replace c =
    carried (dropped _) c.plan_drop.ensures.is (c.in-Ok-Replace.is ∙ ap Ok c.in-Ok-Replace.field-0-is)
    c.replace.ensures
