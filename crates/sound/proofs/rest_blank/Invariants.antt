-- `sound::rest_blank` meets its contract. Assumes nothing.
use Prim.Native.Nat.{ℕ, ◌+◌, ◌-◌, ◌≤◌, ◌<◌}
use mathlib.Core.Path.{◌≡◌}
use mathlib.Core.Bool.{true}
use Rattle.sound.specs.Scan.{settled_at}
use Rattle.sound.proofs.rest_blank.Given as goal

abbrev pub invariant-loop-k : goal.invariant-loop-k
invariant-loop-k l = (1 ≤ l.k) × ((j : ℕ) → 1 ≤ j → j < l.k → settled_at l.t l.m j ≡ true)

abbrev pub decreases-loop-k : goal.decreases-loop-k
decreases-loop-k l = l.c + 1 - l.k
