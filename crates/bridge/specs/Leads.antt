-- Ways down a table: the link at a way's end, and the way that leads to a link. Assumes nothing: these are definitions.
use Rattle.std.specs.Prelude.{ℕ, ◌≡◌, List, [], ◌∷◌}
use Rattle.std.proofs.Math.Option.{some}
use Rattle.scope.specs.Table.{word, link_at}
use Rattle.scope.specs.Tree.{Tree}
use Rattle.scope.specs.declared.side.Side.{Side}
use Rattle.scope.specs.declared.side.Side.TheVariants.{Left, Right}
use Rattle.scope.specs.declared.side.Link.{Link}
use Rattle.tree.specs.Place.{subtree}

-- the number of a side
abbrev pub side_number : Side → ℕ
side_number Left = 0
side_number Right = 1

-- the link at the end of a way from link l
unfoldable pub link_along : List ℕ → List Side → Link → Link
link_along t [] l = l
link_along t (s ∷ way) l = link_along t way (record { holder = word t (link_at l); side = s })

-- a way from l, where T hangs, to the link `goal`, and what hangs there
pub record Leads (t : List ℕ) (l : Link) (T : Tree) (goal : Link) : Type 0 where
  pub way : List Side
  pub tree : Tree
  pub there : subtree way T ≡ some tree
  pub ends : link_along t way l ≡ goal
