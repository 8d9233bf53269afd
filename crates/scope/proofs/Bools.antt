-- Tests: what a passed or failed one tells. Assumes nothing.
use Prim.Native.Nat.{ℕ}
use mathlib.Core.Path.{◌≡◌, refl, sym}
use mathlib.Core.Bool.{Bool, true, false, not, ◌&&◌, ◌||◌}
use native.Mathlib.Omega.{arith}

-- two tests that cannot both have come out so: 0 would be 1
pub never {ℓ} : {X : Type ℓ} → ◌≡◌ {A = ℕ} 0 1 → X
never z = absurd (omega arith)

-- both parts of a conjunction that holds
pub and_l : (a b : Bool) → (a && b) ≡ true → a ≡ true
and_l true b e = refl
and_l false b e = e

pub and_r : (a b : Bool) → (a && b) ≡ true → b ≡ true
and_r true b e = e
and_r false b e = never cc

-- a conjunction of two that hold, and one whose second part fails
pub both : {a b : Bool} → a ≡ true → b ≡ true → (a && b) ≡ true
both p q = rw (p, q) refl

pub and-off : (a b : Bool) → b ≡ false → (a && b) ≡ false
and-off true b e = e
and-off false b e = refl

-- either a test passes or it fails
pub by_bool {ℓ} : {X : Type ℓ} (b : Bool) → (b ≡ true → X) → (b ≡ false → X) → X
by_bool true f g = f refl
by_bool false f g = g refl

-- not both
pub neither {ℓ} : {X : Type ℓ} {b : Bool} → b ≡ true → b ≡ false → X
neither p q = never cc

-- both parts of a disjunction that fails, and one whose second part holds
pub or_l : (a b : Bool) → (a || b) ≡ false → a ≡ false
or_l true b e = e
or_l false b e = refl

pub or_r : (a b : Bool) → (a || b) ≡ false → b ≡ false
or_r true b e = neither {b = true} refl e
or_r false b e = e

pub or-on : (a b : Bool) → b ≡ true → (a || b) ≡ true
or-on true b e = refl
or-on false b e = e

-- what is not so
pub not-true : (b : Bool) → not b ≡ true → b ≡ false
not-true true e = sym e
not-true false e = refl

pub not-false : (b : Bool) → not b ≡ false → b ≡ true
not-false true e = refl
not-false false e = sym e
