-- What can hold at every node of a tree: zeros beside empty links, low registers, no negative carry, balance; and rest.
use Rattle.std.specs.Prelude.{ℕ, zero, suc, ◌+◌, ◌≤◌, ◌≡◌, List}
use Rattle.std.proofs.Math.Option.{none}
use Rattle.scope.specs.Tree.{Tree, leaf, node, true_height}
use Rattle.scope.specs.declared.side.Side.{Side}
use Rattle.scope.specs.declared.rule.Rule.{Rule}
use Rattle.tree.specs.Weight.{top_height}
use Rattle.tree.specs.Rewrite.{fire_at}

-- what holds on the two sides of a node, and in its two sons
pub record Sides (A B C D : Type 0) : Type 0 where
  pub near : A
  pub far : B
  pub in_near : C
  pub in_far : D

-- a statement on a register, the register across and the son below it, on both sides of every node
abbrev pub Each : (ℕ → ℕ → Tree → Type 0) → Tree → Type 0
Each Q leaf = Unit {0}
Each Q (node d a b l r) = Sides (Q a b l) (Q b a r) (Each Q l) (Each Q r)

-- a register beside an empty link is 0
abbrev pub Beside : ℕ → Tree → Type 0
Beside a leaf = a ≡ 0
Beside a (node d x y l r) = Unit {0}

-- the paper's height-relaxed trees
abbrev pub Relaxed : Tree → Type 0
Relaxed = Each (λ a b T. Beside a T)

-- no carry is negative
abbrev pub Covers : ℕ → Tree → Type 0
Covers a T = top_height T ≤ a

abbrev pub Covered : Tree → Type 0
Covered = Each (λ a b T. Covers a T)

-- each register is the true height, and no two sides differ by more than one
abbrev pub Level : ℕ → ℕ → Tree → Type 0
Level a b T = (a ≡ true_height T) × (a ≤ b + 1)

abbrev pub Balanced : Tree → Type 0
Balanced = Each Level

-- no guard holds anywhere
abbrev pub Quiet : Tree → Type 0
Quiet T = (way : List Side) (r : Rule) → fire_at way r T ≡ none

-- the fewest records of a balanced tree of a height
unfoldable pub fewest : ℕ → ℕ
fewest zero = 0
fewest (suc zero) = 1
fewest (suc (suc h)) = suc (fewest (suc h) + fewest h)
