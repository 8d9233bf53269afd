-- What a table must have for a change below its root and other header words to leave it sound. Assumes nothing: this is a statement.
use Rattle.std.specs.Prelude.{ℕ, ◌≤◌, ◌≡◌, true, List}
use Rattle.scope.specs.Table.{word, root_word, count_word, zero_word, slot_at}
use Rattle.scope.specs.Fit.{blank_slot}
use Rattle.scope.specs.Tree.{Tree, size, times, Ordered}
use Rattle.scope.specs.Sound.{Sound, tree_in}
use Rattle.spelling.specs.Ready.{Sized}

-- t₂ is t₁ with other words 1 and 2, and T is a tree that a table of c slots may spell
pub record Resettled (t₁ t₂ : List ℕ) (c : ℕ) (T : Tree) : Type 0 where
  pub sized : Sized t₂ c
  pub slots : (k : ℕ) → 1 ≤ k → slot_at t₂ k ≡ slot_at t₁ k
  pub root : word t₂ root_word ≡ word t₁ root_word
  pub zero : word t₂ zero_word ≡ word t₁ zero_word
  pub count : size T ≡ word t₂ count_word
  pub room : size T ≤ c
  pub once : (k : ℕ) → 1 ≤ k → k ≤ c → times k T ≤ 1
  pub order : Ordered T
  pub rest : (k : ℕ) → 1 ≤ k → k ≤ c → times k T ≡ 0 → blank_slot (slot_at t₁ k) ≡ true

-- a sound table, and the tree that it spells
pub record Spelled (t : List ℕ) (c : ℕ) (T : Tree) : Type 0 where
  pub sound : Sound t c
  pub tree : tree_in t c ≡ T
