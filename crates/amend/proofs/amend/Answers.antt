-- `amend::amend` meets its contract. Assumes nothing.
use mathlib.Core.Path.{refl}
use Rattle.scope.specs.Amend.{amend_of, amended}
use Rattle.gate.proofs.Carried.{carried}
use Rattle.amend.proofs.amend.Goals as goal

pub change_record-requires : goal.change_record-requires
change_record-requires c =
    rw c.in-Ok.is at c.plan_amend.ensures.can

pub returns-in-Err : goal.returns-in-Err
unfolding amend_of amended
returns-in-Err c =
    carried (amended _ _ _) c.plan_amend.ensures.is c.in-Err.is (c.deny.ensures, refl)

pub returns-in-Ok : goal.returns-in-Ok
unfolding amend_of
returns-in-Ok c =
    carried (amended _ _ _) c.plan_amend.ensures.is c.in-Ok.is
    c.change_record.ensures
