-- The height limit as a checked height says it. Assumes nothing.
use Prim.Native.Nat.{ℕ}
use mathlib.Core.Path.{◌≡◌}
use mathlib.Core.Bool.{true, false}
use lib.Dec.{leb}
use Rattle.scope.proofs.Bools.{by_bool, never}
use Rattle.scope.specs.Numbers.{height_of}
use Rattle.scope.specs.declared.height.Height.{Height}
use Rattle.std.specs.Prelude.{Some, None}

pub height-within : (n : ℕ) {h : Height} → height_of n ≡ Some h → leb n 65535 ≡ true
unfolding height_of
height-within n e =
    by_bool (leb n 65535) (λ p. p) (λ p. let z = simp p at e in never cc)

pub height-above : (n : ℕ) → height_of n ≡ None → leb n 65535 ≡ false
unfolding height_of
height-above n e =
    by_bool (leb n 65535) (λ p. let z = simp p at e in never cc) (λ p. p)
