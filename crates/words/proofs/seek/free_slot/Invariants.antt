-- `words::seek::free_slot` meets its contract. Assumes nothing.
use Prim.Native.Nat.{◌-◌}
use lib.ListN.{length}
use Rattle.words.proofs.Seeking.{AtPlace}
use Rattle.words.proofs.seek.free_slot.Given as goal

abbrev pub invariant-loop-b : goal.invariant-loop-b
invariant-loop-b l = AtPlace l.t l.c l.b

abbrev pub decreases-loop-b : goal.decreases-loop-b
decreases-loop-b l = length l.t - l.b
