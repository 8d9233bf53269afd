-- What the test before a register is cleared tells. Assumes nothing.
use Prim.Native.Nat.{ℕ, ◌≤◌}
use mathlib.Core.Path.{◌≡◌}
use mathlib.Core.Bool.{false, not, ◌||◌}
use native.Mathlib.Omega.{arith}
use borrow.Author.Tests.{eqb-false}
use lib.Dec.{eqb}
use Rattle.scope.proofs.Bools.{or_r}

-- a slot holds the link
pub held_by_lem : (son holder : ℕ) → (not (eqb son 0) || eqb holder 0) ≡ false → 1 ≤ holder
held_by_lem son holder e = omega (arith, eqb-false holder 0 (or_r (not (eqb son 0)) _ e))
