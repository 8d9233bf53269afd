-- Keys of a tree between two bounds. Assumes nothing: this is a statement.
use Rattle.std.specs.Prelude.{ℕ, ◌<◌}
use Rattle.scope.specs.Tree.{Tree, leaf, node}

-- the keys are in order and lie between two bounds
unfoldable pub Between : ℕ → ℕ → Tree → Type 0
Between low high leaf = Unit {0}
Between low high (node d a b l r) =
    (low < d.key) × (d.key < high) × Between low d.key l × Between d.key high r
