-- What a slot that a firing has taken is. Assumes nothing.
use Prim.Native.Nat.{ℕ, ◌≤◌}
use mathlib.Core.Path.{◌≡◌}
use mathlib.Core.Bool.{true, not, ◌&&◌}
use mathlib.Core.List.{List}
use native.Mathlib.Omega.{arith}
use borrow.Author.Tests.{eqb-false}
use lib.Dec.{eqb}
use Rattle.scope.proofs.Bools.{and_l, by_bool, never}
use Rattle.scope.specs.Table.{slot_at}
use Rattle.scope.specs.Fit.{fit_slot}
use Rattle.scope.specs.Fire.{take_of}
use Rattle.scope.specs.declared.slot.Slot.{Slot}
use Rattle.std.specs.Prelude.{Ok}

-- it is there, and fit
pub record Took (t : List ℕ) (c k : ℕ) (s : Slot) : Type 0 where
  pub first : 1 ≤ k
  pub is : s ≡ slot_at t k
  pub fit : fit_slot c s ≡ true

pub took : (t : List ℕ) (c k a b e : ℕ) {s : Slot} → take_of t c k a b e ≡ Ok s → Took t c k s
unfolding take_of
took t c k a b e {s} q =
    by_bool (eqb k 0)
    (λ z. let p = simp z at q in never cc)
    (λ z. by_bool (fit_slot c (slot_at t k) && not (eqb k a) && not (eqb k b) && not (eqb k e))
    (λ f. let p = simp (z, f) at q in
    let g = and_l _ _ (and_l _ _ (and_l _ _ f)) in
    let i : s ≡ slot_at t k = cc in
    record { first = omega (arith, eqb-false k 0 z); is = i; fit = rw i g })
    (λ f. let p = simp (z, f) at q in never cc))
