-- The slots of a tree in the order of their keys. Assumes nothing.
use Prim.Native.Nat.{ℕ}
use mathlib.Core.Path.{◌≡◌, refl, ap, ◌∙◌}
use mathlib.Core.List.{◌∷◌, ◌++◌, map-append}
use native.Mathlib.Omega.{arith}
use lib.ListN.{length, length-append}
use Rattle.scope.specs.Tree.{Batch, Tree, leaf, node, size, in_order}
use Rattle.scope.specs.Sums.{slots_in_order}

-- a node's slots in order are those on its left, its own, and those on its right
pub order-node : (d : Batch) (a b : ℕ) (l r : Tree)
    → slots_in_order (node d a b l r) ≡ slots_in_order l ++ (d.slot ∷ slots_in_order r)
unfolding in_order
order-node d a b l r = map-append (λ (e : Batch). e.slot) (in_order l) (d ∷ in_order r)

pub order-size : (T : Tree) → length (slots_in_order T) ≡ size T
unfolding in_order size
order-size leaf = refl
order-size (node d a b l r) =
    ap length (order-node d a b l r) ∙ length-append (slots_in_order l) (d.slot ∷ slots_in_order r)
    ∙ omega (arith, order-size l, order-size r)
