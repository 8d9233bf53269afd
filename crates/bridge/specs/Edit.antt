-- Writes of one link or register of a slot, and what they make of each slot. Assumes nothing: these are definitions.
use Rattle.std.specs.Prelude.{ℕ, cond, List, [], ◌∷◌, eqb}
use Rattle.scope.specs.Numbers.{other}
use Rattle.scope.specs.Table.{son, with_links}
use Rattle.scope.specs.Edits.{Part, son_on, register_on, Edit}
use Rattle.scope.specs.Rules.{seen}
use Rattle.scope.specs.declared.rule.Pair.{Pair}
use Rattle.scope.specs.declared.side.Side.{Side}
use Rattle.scope.specs.declared.side.Side.TheVariants.{Left, Right}
use Rattle.scope.specs.declared.slot.Slot.{Slot}

-- a slot of the record in x, with these links and registers seen from a side
unfoldable pub shape : Side → Slot → ℕ → ℕ → Pair → Slot
shape Left x near far p = with_links x near far p.near p.far
shape Right x near far p = with_links x far near p.far p.near

-- a slot with another number in a part
unfoldable pub with_part : Part → ℕ → Slot → Slot
with_part (son_on s) n x = shape s x n (son x (other s)) (seen s x)
with_part (register_on s) n x = shape s x (son x s) (son x (other s)) (record { near = n; far = (seen s x).far })

-- what they make of slot k, and of the root's word
unfoldable pub edited : List Edit → ℕ → Slot → Slot
edited [] k x = x
edited (e ∷ es) k x = edited es k (cond (eqb k e.slot) (with_part e.part e.what x) x)

unfoldable pub rooted : List Edit → ℕ → ℕ
rooted [] x = x
rooted (e ∷ es) x = rooted es (cond (eqb e.slot 0) e.what x)
