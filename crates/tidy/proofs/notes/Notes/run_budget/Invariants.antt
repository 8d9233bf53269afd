-- `tidy::notes::Notes::run_budget` meets its contract. Assumes nothing.
use Prim.Native.Nat.{◌-◌}
use Rattle.tidy.proofs.Going.{UnderWay}
use Rattle.tidy.proofs.notes.Notes.run_budget.Given as goal

abbrev pub invariant-loop-rule : goal.invariant-loop-rule
invariant-loop-rule l = UnderWay l.initial.t l.c l.budget l.t l.self l.made

abbrev pub decreases-loop-rule : goal.decreases-loop-rule
decreases-loop-rule l = l.budget - l.made
