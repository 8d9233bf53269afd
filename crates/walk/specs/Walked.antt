-- How the walk ends: as `scope` defines it, with numbers that lie in the table. Assumes nothing: these are statements.
use Rattle.std.specs.Prelude.{ℕ, ◌≤◌, ◌≡◌, cond, List, ltb}
use Rattle.scope.specs.Walk.{walk_of}
use Rattle.scope.specs.declared.slot.Slot.{Slot}
use Rattle.scope.specs.declared.side.Side.{Side}
use Rattle.scope.specs.declared.side.Side.TheVariants.{Left, Right}
use Rattle.scope.specs.declared.outcome.Walk.{Walk}
use Rattle.scope.specs.declared.outcome.Walk.TheVariants.{Hit, Miss, Damage}

-- slots, holders and visits are at most c
abbrev pub WalkInside : ℕ → Walk → Type 0
WalkInside c (Hit slot link seen) = (1 ≤ slot) × (slot ≤ c) × (link.holder ≤ c) × (1 ≤ seen) × (seen ≤ c)
WalkInside c (Miss passed link seen) = (link.holder ≤ c) × (seen ≤ c)
WalkInside c Damage = Unit {0}

pub record Walked (t : List ℕ) (c key : ℕ) (r : Walk) : Type 0 where
  pub is : r ≡ walk_of t c key
  pub inside : WalkInside c r

-- the side on which a key would hang under a slot
unfoldable pub way_of : ℕ → Slot → Side
way_of key s = cond (ltb key s.key) Left Right
