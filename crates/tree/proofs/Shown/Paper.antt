-- The paper's statements in its own order: Lemma 1, Lemma 2, Property 1 and Theorem 1. Assumes nothing.
use Prim.Native.Nat.{◌+◌, ◌*◌, ◌≤◌, ◌<◌}
use mathlib.Core.Path.{◌≡◌}
use mathlib.Core.Option.{some}
use mathlib.Core.List.{List}
use native.Mathlib.Omega.{arith}
use Rattle.scope.specs.Tree.{Tree, size, in_order, Ordered}
use Rattle.scope.specs.Worth.{worth_of, largest_carry, largest_balance}
use Rattle.scope.specs.declared.side.Side.{Side}
use Rattle.scope.specs.declared.rule.Rule.{Rule}
use Rattle.scope.specs.Rules.{guard}
use Rattle.tree.specs.Rewrite.{fire_at, Attempt, accepted_attempts}
use Rattle.tree.specs.Shape.{Relaxed, Covered}
use Rattle.tree.specs.Variant.{Less, variant_of}
use Rattle.tree.proofs.Firing.Keeps.{keeps}
use Rattle.tree.proofs.Firing.Order.{ordered-kept}
use Rattle.tree.proofs.Worth.Covered.{covered-kept}
use Rattle.tree.proofs.Worth.Variant.{variant-falls}
use Rattle.tree.proofs.Worth.Fall.{worth-falls, accepted-bound}
use Rattle.tree.proofs.Worth.Bound.{worth-bound}

-- a height-relaxed search tree
pub record HeightRelaxed (T : Tree) : Type 0 where
  pub ordered : Ordered T
  pub relaxed : Relaxed T

-- LEMMA 1: a firing keeps such a tree and its records; that it is balanced where no rule applies is `quiet-balanced`
pub safety : (way : List Side) (r : Rule) (T T' : Tree) → fire_at way r T ≡ some T' → HeightRelaxed T
    → HeightRelaxed T' × (in_order T' ≡ in_order T)
safety way r T T' e h =
    let k = keeps guard way r T T' e in
    (record { ordered = ordered-kept T T' k.records h.ordered; relaxed = k.relaxed h.relaxed }, k.records)

-- LEMMA 2: no carry becomes negative where none is
pub no-negative : (way : List Side) (r : Rule) (T T' : Tree) → fire_at way r T ≡ some T' → Covered T → Covered T'
no-negative = covered-kept

-- PROPERTY 1: (NEG, 2 POS + BAL, RBAL) falls in the lexicographic order
pub liveness : (way : List Side) (r : Rule) (T T' : Tree) → fire_at way r T ≡ some T'
    → Less (variant_of T') (variant_of T)
liveness = variant-falls

-- THEOREM 1: 6 (NEG + POS) + 2 BAL + RBAL falls; so no list of attempts has more accepted ones than the paper says
pub worth-variant : (way : List Side) (r : Rule) (T T' : Tree) → fire_at way r T ≡ some T' → worth_of T' < worth_of T
worth-variant = worth-falls

pub steps-bound : (xs : List Attempt) (T : Tree)
    → accepted_attempts xs T ≤ 6 * largest_carry T * size T * (size T + 1) + 3 * largest_balance T * size T
steps-bound xs T = omega (arith, accepted-bound xs T, worth-bound T)
