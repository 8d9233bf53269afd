-- The search walk from the root down (document 01, "Calls and what they answer"; the form in "Kept as constants of their type"),
-- and the last keys that it passes (document 02, order 1).
use Rattle.std.specs.Prelude.{ℕ, zero, suc, ◌+◌, cond, List, ltb, eqb}
use Rattle.scope.specs.Numbers.{root_link}
use Rattle.scope.specs.Table.{word, root_word, slot_at}
use Rattle.scope.specs.Fit.{fit_slot}
use Rattle.scope.specs.declared.slot.Slot.{Slot}
use Rattle.scope.specs.declared.side.Side.{Side}
use Rattle.scope.specs.declared.side.Side.TheVariants.{Left, Right}
use Rattle.scope.specs.declared.side.Link.{Link}
use Rattle.scope.specs.declared.outcome.Step.{Step}
use Rattle.scope.specs.declared.outcome.Step.TheVariants.{Here, Down, Broken}
use Rattle.scope.specs.declared.outcome.Passed.{Passed}
use Rattle.scope.specs.declared.outcome.Walk.{Walk}
use Rattle.scope.specs.declared.outcome.Walk.TheVariants.{Hit, Miss, Damage}

-- what a visited slot tells: it is tested first, then the keys are compared
unfoldable pub step_of : ℕ → ℕ → Slot → Step
step_of c key s =
    cond (fit_slot c s)
    (cond (eqb key s.key) Here (cond (ltb key s.key) (Down Left s.left) (Down Right s.right)))
    Broken

abbrev pub on_step : Step → Walk → (Side → ℕ → Walk) → Walk
on_step Broken hit on = Damage
on_step Here hit on = hit
on_step (Down side next) hit on = on side next

-- the last key passed on each side: none before the root; at a turn to the left the slot's key lies above, at one to the right below
abbrev pub none_passed : Passed
none_passed = record { below = 0; above = 0 }

abbrev pub passing : Side → ℕ → Passed → Passed
passing Left k passed = record { below = passed.below; above = k }
passing Right k passed = record { below = k; above = passed.above }

module _ (t : List ℕ) (c key : ℕ) where
  -- the walk from slot k, which hangs at `link`, with the last keys passed and `seen` slots visited, and `more` that may still be
  unfoldable pub walk_from : ℕ → ℕ → Link → Passed → ℕ → Walk
  walk_from zero k link passed seen = cond (eqb k 0) (Miss passed link seen) Damage
  walk_from (suc more) k link passed seen =
      cond (eqb k 0) (Miss passed link seen)
      (on_step (step_of c key (slot_at t k)) (Hit k link (seen + 1))
      (λ side next.
      walk_from more next (record { holder = k; side = side }) (passing side (slot_at t k).key passed) (seen + 1)))

  -- the walk of a key: at most c slots are visited
  unfoldable pub walk_of : Walk
  walk_of = walk_from c (word t root_word) root_link none_passed 0
