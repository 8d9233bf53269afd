-- `sound::scan` and `sound::under` meet their contracts. Assumes nothing.
use Prim.Native.Nat.{◌+◌, ◌*◌}
use Rattle.sound.proofs.Along.{Along}
use Rattle.sound.proofs.+scan_under.Given as goal

abbrev pub decreases-scan : goal.decreases-scan
decreases-scan l = 2 * l.more

abbrev pub decreases-under : goal.decreases-under
decreases-under l = 2 * l.more + 1

abbrev pub invariant-scan-loop-few : goal.invariant-scan-loop-few
invariant-scan-loop-few l = Along l.t l.initial.m l.c l.more l.x l.low l.high l.m l.at l.from l.few

abbrev pub decreases-scan-loop-few : goal.decreases-scan-loop-few
decreases-scan-loop-few l = l.few
