-- `stand_shift::fill` goes on line by line: the lines before `next` are answered. Assumes nothing.
use Prim.Native.Nat.{◌-◌}
use lib.ListN.{length}
use Rattle.stand_shift.proofs.Filling.{FillGoing}
use Rattle.stand_shift.proofs.fill.Given as goal

abbrev pub invariant-loop-next : goal.invariant-loop-next
invariant-loop-next l = FillGoing l.initial.t l.input l.from l.t l.out l.next l.at

abbrev pub decreases-loop-next : goal.decreases-loop-next
decreases-loop-next l = length l.input - l.next
