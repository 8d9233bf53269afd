-- Places in a tree: what hangs at the end of a way, and the tree with something else there.
use Rattle.std.proofs.Math.Option.{Option, some}
use Rattle.std.specs.Prelude.{List, [], ◌∷◌}
use Rattle.scope.specs.Tree.{Tree}
use Rattle.scope.specs.declared.side.Side.{Side}
use Rattle.tree.specs.Rewrite.{on_top, over_near}

-- what hangs at the end of a way down; none where the way leaves the tree
unfoldable pub subtree : List Side → Tree → Option Tree
subtree [] T = some T
subtree (s ∷ way) T = on_top s T (λ d x near far. subtree way near)

-- T with S there instead
unfoldable pub plug : List Side → Tree → Tree → Option Tree
plug [] S T = some S
plug (s ∷ way) S T = on_top s T (λ d x near far. over_near s d x (plug way S near) far)
