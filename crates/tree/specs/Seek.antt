-- The search walk on a tree: what it finds, the way that it takes, the keys it passes last, the nodes it visits. Assumes nothing:
-- these are definitions.
use Rattle.std.specs.Prelude.{ℕ, suc, cond, List, [], ◌∷◌, eqb, ltb}
use Rattle.std.proofs.Math.Option.{Option, none, some}
use Rattle.scope.specs.Tree.{Batch, Tree, leaf, node}
use Rattle.scope.specs.Walk.{passing}
use Rattle.scope.specs.declared.side.Side.{Side}
use Rattle.scope.specs.declared.side.Side.TheVariants.{Left, Right}
use Rattle.scope.specs.declared.side.Link.{Link}
use Rattle.scope.specs.declared.outcome.Passed.{Passed}
use Rattle.scope.specs.declared.outcome.Walk.{Walk}
use Rattle.scope.specs.declared.outcome.Walk.TheVariants.{Hit, Miss}

unfoldable pub seek : ℕ → Tree → Option Batch
seek key leaf = none
seek key (node d a b l r) = cond (eqb key d.key) (some d) (cond (ltb key d.key) (seek key l) (seek key r))

unfoldable pub route : ℕ → Tree → List Side
route key leaf = []
route key (node d a b l r) =
    cond (eqb key d.key) [] (cond (ltb key d.key) (Left ∷ route key l) (Right ∷ route key r))

unfoldable pub visits : ℕ → Tree → ℕ
visits key leaf = 0
visits key (node d a b l r) =
    suc (cond (eqb key d.key) 0 (cond (ltb key d.key) (visits key l) (visits key r)))

-- the last keys passed on each side, where these were passed before
unfoldable pub passed_to : ℕ → Tree → Passed → Passed
passed_to key leaf passed = passed
passed_to key (node d a b l r) passed =
    cond (eqb key d.key) passed
    (cond (ltb key d.key)
    (passed_to key l (passing Left d.key passed)) (passed_to key r (passing Right d.key passed)))

-- how a walk ends that finds this, at that link, with those keys passed last and so many visits
abbrev pub sought : Option Batch → Link → Passed → ℕ → Walk
sought none link passed seen = Miss passed link seen
sought (some d) link passed seen = Hit d.slot link seen

-- a register beside a son; beside none it is 0
abbrev pub beside : ℕ → Tree → ℕ
beside a leaf = 0
beside a (node d x y l r) = a

-- what hangs at the end of the way to a key, and the tree with something else, or nothing, there
unfoldable pub end_of : ℕ → Tree → Tree
end_of key leaf = leaf
end_of key (node d a b l r) =
    cond (eqb key d.key) (node d a b l r) (cond (ltb key d.key) (end_of key l) (end_of key r))

unfoldable pub at_key : ℕ → (Tree → Tree) → Tree → Tree
at_key key f leaf = f leaf
at_key key f (node d a b l r) =
    cond (eqb key d.key) (f (node d a b l r))
    (cond (ltb key d.key)
    (node d (beside a (at_key key f l)) b (at_key key f l) r) (node d a (beside b (at_key key f r)) l (at_key key f r)))

-- a node with other pieces and another state in its record
unfoldable pub amend_top : ℕ → ℕ → Tree → Tree
amend_top pieces state leaf = leaf
amend_top pieces state (node d a b l r) =
    node (record { slot = d.slot; key = d.key; pieces = pieces; state = state }) a b l r
