-- A tree that hangs at a link, and what a walk of it says. Assumes nothing: these are statements.
use Rattle.std.specs.Prelude.{ℕ, ◌+◌, ◌-◌, ◌≤◌, ◌<◌, ◌≡◌, true, List}
use Rattle.scope.specs.Numbers.{most_slots}
use Rattle.scope.specs.Table.{slot_at}
use Rattle.scope.specs.Fit.{fit_slot}
use Rattle.scope.specs.Tree.{Tree, node, size}
use Rattle.scope.specs.Sound.{Spells, batch_at}
use Rattle.spelling.specs.Ready.{Sized}
use Rattle.fork.specs.declared.Fork.{Fork}

-- a tree of at most `more` slots hangs at link x
pub record FewHang (t : List ℕ) (more x : ℕ) : Type 0 where
  pub slots : ℕ
  pub sized : Sized t slots
  pub link : x ≤ slots
  pub most : more ≤ most_slots
  pub tree : Tree
  pub reached : Spells t slots x tree
  pub few : size tree ≤ more

-- r is what f says of the tree that the words spell from link x on
abbrev pub Says : {A : Type 0} → List ℕ → ℕ → (Tree → A) → A → Type 0
Says t x f r = (c : ℕ) (T : Tree) → Spells t c x T → r ≡ f T

-- a slot with its two sons
abbrev pub fork_at : List ℕ → ℕ → Fork
fork_at t x = record { slot = slot_at t x; left = (slot_at t x).left; right = (slot_at t x).right }

-- the slot at link x with what hangs below it
pub record Forked (t : List ℕ) (more x : ℕ) (f : Fork) : Type 0 where
  pub some : 1 ≤ more
  pub most : more ≤ most_slots
  pub c : ℕ
  pub slot : f.slot ≡ slot_at t x
  pub fit : fit_slot c f.slot ≡ true
  pub on_left : FewHang t (more - 1) f.left
  pub on_right : FewHang t (more - 1) f.right
  pub few : size on_left.tree + size on_right.tree < more
  pub whole : (c : ℕ) (T : Tree) → Spells t c x T
      → T ≡ node (batch_at t x) f.slot.lefth f.slot.righth on_left.tree on_right.tree

-- the tree that hangs there
abbrev pub tree_at : {t : List ℕ} {more x : ℕ} {f : Fork} → Forked t more x f → Tree
tree_at {t} {more} {x} {f} d = node (batch_at t x) f.slot.lefth f.slot.righth d.on_left.tree d.on_right.tree
