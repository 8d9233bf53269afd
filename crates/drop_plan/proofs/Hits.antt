-- A walk ends with a hit at a fit slot only. Assumes nothing.
use Prim.Native.Nat.{ℕ, zero, suc, ◌+◌}
use mathlib.Core.Path.{◌≡◌, refl}
use mathlib.Core.Bool.{true}
use mathlib.Core.List.{List}
use lib.Dec.{eqb}
use Rattle.scope.proofs.Bools.{by_bool, never}
use Rattle.scope.specs.Table.{slot_at}
use Rattle.scope.specs.Fit.{fit_slot}
use Rattle.scope.specs.Walk.{step_of, on_step, walk_from, walk_of}
use Rattle.scope.specs.declared.side.Side.{Side}
use Rattle.scope.specs.declared.slot.Slot.{Slot}
use Rattle.scope.specs.declared.side.Link.{Link}
use Rattle.scope.specs.declared.outcome.Step.{Step}
use Rattle.scope.specs.declared.outcome.Step.TheVariants.{Here, Down, Broken}
use Rattle.scope.specs.declared.outcome.Passed.{Passed}
use Rattle.scope.specs.declared.outcome.Walk.{Walk}
use Rattle.scope.specs.declared.outcome.Walk.TheVariants.{Hit}
use Rattle.drop_plan.specs.Planned.{HitFits}

here-fit : (c key : ℕ) (s : Slot) → step_of c key s ≡ Here → fit_slot c s ≡ true
unfolding step_of
here-fit c key s e =
    by_bool (fit_slot c s) (λ f. f)
    (λ f. let z = simp f at e in never cc)

-- a step at slot k leads to a hit there, or to one further on
on_step_lem : (t : List ℕ) (c key k : ℕ) (now : Step) (link : Link) (seen : ℕ) (on : Side → ℕ → Walk)
    → step_of c key (slot_at t k) ≡ now → ((side : Side) (next : ℕ) → HitFits t c (on side next))
    → HitFits t c (on_step now (Hit k link seen) on)
on_step_lem t c key k Here link seen on e further = here-fit c key (slot_at t k) e
on_step_lem t c key k (Down side next) link seen on e further = further side next
on_step_lem t c key k Broken link seen on e further = tt

module _ (t : List ℕ) (c key : ℕ) where
  from-fit : (n k : ℕ) (link : Link) (passed : Passed) (seen : ℕ) → HitFits t c (walk_from t c key n k link passed seen)
  unfolding walk_from
  from-fit zero k link passed seen = by_bool (eqb k 0) (λ p. simp p tt) (λ p. simp p tt)
  from-fit (suc n) k link passed seen =
      by_bool (eqb k 0) (λ p. simp p tt)
      (λ p. simp p (on_step_lem t c key k (step_of c key (slot_at t k)) link (seen + 1) _ refl
      (λ side next. from-fit n next (record { holder = k; side = side }) _ (seen + 1))))

  pub hit-fits : (w : Walk) → w ≡ walk_of t c key → HitFits t c w
  unfolding walk_of
  hit-fits w e = rw e (from-fit _ _ _ _ _)
