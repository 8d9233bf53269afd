-- `drop_plan::leftmost` meets its contract. Assumes nothing.
use Prim.Native.Nat.{◌-◌}
use Rattle.scope.specs.Drop.{leftmost_from}
use Rattle.drop_plan.proofs.Descending.{Descending}
use Rattle.drop_plan.proofs.leftmost.Given as goal

abbrev pub invariant-loop-visit : goal.invariant-loop-visit
invariant-loop-visit l =
    Descending l.t l.c (leftmost_from l.most l.t l.c l.initial.at l.initial.held) (l.most - l._visit) l.at l.held
