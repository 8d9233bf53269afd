-- What a fold of a tree is asked at a slot, and what it says there. Assumes nothing: these are statements.
use Rattle.std.specs.Prelude.{ℕ, ◌-◌, ◌≡◌, List}
use Rattle.scope.specs.Tree.{Tree}
use Rattle.fork.specs.declared.Fork.{Fork}
use Rattle.fork.specs.Hangs.{Forked, tree_at}

module _ {D : Type 0} (bears : ℕ → D → Type 0) (handed : ℕ → D) where
  -- what can be borne at a slot can be borne on its two sides, handed what their registers say
  abbrev pub BearsSides : Type 0
  BearsSides =
      (t : List ℕ) (more x : ℕ) (f : Fork) (down : D) → Forked t more x f → bears more down
      → bears (more - 1) (handed f.slot.lefth) × bears (more - 1) (handed f.slot.righth)

  module _ {U : Type 0} (says : D → Tree → U) (f : Fork) (down : D) (a b : U) where
    -- a and b are said of the two sides of a slot
    pub record Branches : Type 0 where
      pub t : List ℕ
      pub more : ℕ
      pub x : ℕ
      pub fork : Forked t more x f
      pub borne : bears more down
      pub on_left : a ≡ says (handed f.slot.lefth) fork.on_left.tree
      pub on_right : b ≡ says (handed f.slot.righth) fork.on_right.tree

    -- and r is said of the slot over them
    abbrev pub Joins : U → Type 0
    Joins r = (s : Branches) → r ≡ says down (tree_at s.fork)
