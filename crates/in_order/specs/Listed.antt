-- Slots listed in the order of their keys. Assumes nothing: these are statements.
use Rattle.std.specs.Prelude.{ℕ, ◌+◌, ◌≤◌, ◌≡◌, List, ◌++◌, length, take}
use Rattle.scope.specs.Tree.{size}
use Rattle.scope.specs.Sound.{tree_in}
use Rattle.scope.specs.Sums.{slots_in_order}
use Rattle.fork.specs.Hangs.{FewHang, Says}

-- a tree hangs at link x, and a list has room for its slots from the place `at` on
pub record Roomy (t : List ℕ) (more x : ℕ) (list : List ℕ) (at : ℕ) : Type 0 where
  pub hangs : FewHang t more x
  pub room : at + size hangs.tree ≤ length list

-- the slots that hang at link x are listed from the place `at` up to n, behind what stood before
pub record Written (t old : List ℕ) (x at : ℕ) (new : List ℕ) (n : ℕ) : Type 0 where
  pub slots : Says t x (λ T. take at old ++ slots_in_order T) (take n new)
  pub place : Says t x (λ T. at + size T) n

-- the first n of a list are the slots of a table in the order of their keys
pub record InOrder (t : List ℕ) (c : ℕ) (list : List ℕ) (n : ℕ) : Type 0 where
  pub is : take n list ≡ slots_in_order (tree_in t c)
  pub within : n ≤ length list
