-- A tree without its leftmost record, and one without the record at its top. Assumes nothing: these are definitions.
use Rattle.std.specs.Prelude.{ℕ}
use Rattle.scope.specs.Tree.{Batch, Tree, leaf, node}
use Rattle.scope.specs.declared.side.Side.TheVariants.{Left}
use Rattle.scope.specs.declared.side.Link.{Link}
use Rattle.tree.specs.Seek.{beside, at_key}

-- the leftmost record at or below a node, by its left son, and the link that leads to it
unfoldable pub least : Batch → Tree → Batch
least d leaf = d
least d (node e a b l r) = least e l

unfoldable pub least_link : Link → Batch → Tree → Link
least_link k d leaf = k
least_link k d (node e a b l r) = least_link (record { holder = d.slot; side = Left }) e l

-- what is left of a node without it
unfoldable pub without_least : Batch → ℕ → ℕ → Tree → Tree → Tree
without_least d a b leaf r = r
without_least d a b (node e x y l m) r = node d (beside a (without_least e x y l m)) b (without_least e x y l m) r

-- a record in another slot
abbrev pub in_slot : ℕ → Batch → Batch
in_slot k d = record { slot = k; key = d.key; pieces = d.pieces; state = d.state }

-- with at most one son, that son; with two, the leftmost record on the right goes to the top
unfoldable pub without_top : Tree → Tree
without_top leaf = leaf
without_top (node d a b leaf r) = r
without_top (node d a b (node e x y l m) leaf) = node e x y l m
without_top (node d a b (node e x y l m) (node g u v p q)) =
    node (in_slot d.slot (least g p)) a (beside b (without_least g u v p q)) (node e x y l m) (without_least g u v p q)

-- the tree without the record of a key
abbrev pub without_key : ℕ → Tree → Tree
without_key key = at_key key without_top
