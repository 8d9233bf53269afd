-- The trees that words spell: records with their two registers (document 01, "The table" and "The worth").
use Rattle.std.specs.Prelude.{ℕ, suc, ◌+◌, ◌<◌, max, Bool, true, cond, ◌&&◌, List, [], ◌∷◌, ◌++◌, ltb, eqb}

-- a record and the slot that it stands in
pub record Batch : Type 0 where
  pub slot : ℕ
  pub key : ℕ
  pub pieces : ℕ
  pub state : ℕ

-- no node; or a record, its left and right register, its left and right son
pub data Tree : Type 0 where
  leaf : Tree
  node : Batch → ℕ → ℕ → Tree → Tree → Tree

unfoldable pub size : Tree → ℕ
size leaf = 0
size (node d a b l r) = suc (size l + size r)

-- the records from left to right
unfoldable pub in_order : Tree → List Batch
in_order leaf = []
in_order (node d a b l r) = in_order l ++ (d ∷ in_order r)

-- 1 where the two numbers are the same, else 0
abbrev pub same : ℕ → ℕ → ℕ
same j k = cond (eqb j k) 1 0

-- how often the tree has slot k
unfoldable pub times : ℕ → Tree → ℕ
times k leaf = 0
times k (node d a b l r) = same k d.slot + (times k l + times k r)

-- one more than the larger of two heights
abbrev pub over : ℕ → ℕ → ℕ
over a b = suc (max a b)

-- the true height: 0 for no node, else one more than the higher side
unfoldable pub true_height : Tree → ℕ
true_height leaf = 0
true_height (node d a b l r) = over (true_height l) (true_height r)

-- every key is smaller than b, or larger
unfoldable pub all_below : ℕ → Tree → Bool
all_below b leaf = true
all_below b (node d h g l r) = ltb d.key b && (all_below b l && all_below b r)

unfoldable pub all_above : ℕ → Tree → Bool
all_above b leaf = true
all_above b (node d h g l r) = ltb b d.key && (all_above b l && all_above b r)

-- keys to the left of a node are smaller and those to the right larger
unfoldable pub ordered : Tree → Bool
ordered leaf = true
ordered (node d h g l r) = (all_below d.key l && all_above d.key r) && (ordered l && ordered r)

-- the same three as statements
unfoldable pub Below : ℕ → Tree → Type 0
Below b leaf = Unit {0}
Below b (node d h g l r) = (d.key < b) × Below b l × Below b r

unfoldable pub Above : ℕ → Tree → Type 0
Above b leaf = Unit {0}
Above b (node d h g l r) = (b < d.key) × Above b l × Above b r

unfoldable pub Ordered : Tree → Type 0
Ordered leaf = Unit {0}
Ordered (node d h g l r) = Below d.key l × Above d.key r × Ordered l × Ordered r
