-- Whether any rule may be due at a slot, from its sons' registers alone. Assumes nothing: these are definitions.
use Rattle.std.specs.Prelude.{ℕ, Bool, false, cond, not, ◌&&◌, ◌||◌, List, leb, eqb}
use Rattle.scope.specs.Table.{slot_at, son}
use Rattle.scope.specs.Rules.{seen, reliable, heavy}
use Rattle.scope.specs.declared.slot.Slot.{Slot}
use Rattle.scope.specs.declared.side.Side.{Side}
use Rattle.scope.specs.declared.side.Side.TheVariants.{Left, Right}

-- a number that names a slot of c
abbrev pub names : ℕ → ℕ → Bool
names c k = not (eqb k 0) && leb k c

-- a son is there, and the slot leans to it or the register above it is not up to date
unfoldable pub side_may_be_due : List ℕ → ℕ → Slot → Side → Bool
side_may_be_due t c x s =
    cond (names c (son x s)) (heavy (seen s x) || not (reliable (seen s x).near (seen s (slot_at t (son x s))))) false

unfoldable pub may_be_due : List ℕ → ℕ → Slot → Bool
may_be_due t c x = not (eqb x.state 0) && (side_may_be_due t c x Left || side_may_be_due t c x Right)
