-- Marked examples of document 01 on trees: the firings, and the worth after each. Assumes nothing.
use Prim.Native.Nat.{ℕ}
use mathlib.Core.Path.{◌≡◌, refl}
use mathlib.Core.List.{List, [], ◌∷◌, map}
use Rattle.scope.specs.Tree.{Batch, Tree, leaf, node, size}
use Rattle.scope.specs.Worth.{neg_of, pos_of, NEG, POS, BAL, RBAL, worth_of}
use Rattle.scope.specs.declared.side.Side.{Side}
use Rattle.scope.specs.declared.side.Side.TheVariants.{Left, Right}
use Rattle.scope.specs.declared.rule.Kind.{Kind}
use Rattle.scope.specs.declared.rule.Kind.TheVariants.{Propagate, Lean, Even, Double}
use Rattle.scope.proofs.Script.{Row, row, rows}
use Rattle.tree.specs.Rewrite.{rule_on, rewrite_top, rewrite_at, Attempt, attempted, or_same, after_attempts, accepted_attempts}

-- a record in slot k, as it is posted, and an attempt
abbrev pub batch : ℕ → Batch
batch k = record { slot = k; key = k; pieces = 1; state = 1 }

abbrev fresh : ℕ → Tree → Tree → Tree
fresh k l r = node (batch k) 0 0 l r

abbrev try : List Side → Kind → Side → Attempt
try way k s = record { way = way; rule = rule_on k s }

-- the worth before and after each attempt
abbrev worths : List Attempt → Tree → List ℕ
worths [] T = worth_of T ∷ []
worths (x ∷ xs) T = worth_of T ∷ worths xs (or_same (attempted x T) T)

-- the slots and registers of a tree, from the top down
abbrev shown : Tree → List ℕ → List ℕ
shown leaf rest = rest
shown (node d a b l r) rest = d.slot ∷ a ∷ b ∷ shown l (shown r rest)

abbrev m1 : Tree
m1 = fresh 1 leaf (fresh 2 leaf (fresh 3 leaf leaf))

abbrev m1_firings : List Attempt
m1_firings =
    try [] Propagate Right ∷ try (Right ∷ []) Propagate Right ∷ try [] Propagate Right ∷ try [] Lean Right ∷ []

abbrev m2 : Tree
m2 = fresh 1 (fresh 2 leaf (fresh 3 leaf leaf)) leaf

abbrev m2_firings : List Attempt
m2_firings =
    try [] Propagate Left ∷ try (Left ∷ []) Propagate Right ∷ try [] Propagate Left ∷ try [] Double Left ∷ []

abbrev m4 : Tree
m4 = fresh 1 (fresh 2 (fresh 3 leaf leaf) (fresh 4 leaf leaf)) leaf

abbrev m4_firings : List Attempt
m4_firings =
    try (Left ∷ []) Propagate Left
    ∷ try (Left ∷ []) Propagate Right
    ∷ try [] Propagate Left
    ∷ try [] Lean Left
    ∷ try [] Even Left
    ∷ []

abbrev table : List Row
table =
    row (worths m1_firings m1) (18 ∷ 14 ∷ 10 ∷ 7 ∷ 0 ∷ [])
    ∷ row (shown (after_attempts m1_firings m1) []) (2 ∷ 1 ∷ 1 ∷ 1 ∷ 0 ∷ 0 ∷ 3 ∷ 0 ∷ 0 ∷ [])
    ∷ row (shown (after_attempts m2_firings m2) []) (3 ∷ 1 ∷ 1 ∷ 2 ∷ 0 ∷ 0 ∷ 1 ∷ 0 ∷ 0 ∷ [])
    -- the fourth, rule 3, is refused, and rule 5 accepted
    ∷ row (worths m4_firings m4) (42 ∷ 32 ∷ 12 ∷ 5 ∷ 5 ∷ 4 ∷ [])
    ∷ row (accepted_attempts m4_firings m4 ∷ []) (4 ∷ [])
    ∷ []

pub marked_trees : map (λ r. r.given) table ≡ map (λ r. r.stated) table
unfolding worth_of NEG POS BAL RBAL neg_of pos_of size rewrite_at rewrite_top after_attempts accepted_attempts
marked_trees = rows table refl
