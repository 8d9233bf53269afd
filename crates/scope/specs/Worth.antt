-- The worth of a tree, from four sums over its nodes (document 01, "The worth").
use Rattle.std.specs.Prelude.{ℕ, ◌+◌, ◌*◌, ◌-◌, max, true, List}
use Rattle.scope.specs.Table.{word, change_word}
use Rattle.scope.specs.Tree.{Tree, leaf, node, size, over}
use Rattle.scope.specs.Sound.{tree_in}
use Rattle.scope.specs.Answers.{accepted, answering}
use Rattle.scope.specs.Sums.{sound_gate}
use Rattle.scope.specs.declared.answer.Answer.{Answer}

-- how far two numbers are apart
abbrev pub gap : ℕ → ℕ → ℕ
gap a b = (a - b) + (b - a)

-- |bal| of a node with registers a and b
abbrev pub bal : ℕ → ℕ → ℕ
bal a b = gap a b

-- car of a node with registers a and b is the register above it less its localh: its size where it is below zero
-- (the register above is too low), where it is above zero (too high), and either way
abbrev pub car_below : ℕ → ℕ → ℕ → ℕ
car_below above a b = over a b - above

abbrev pub car_above : ℕ → ℕ → ℕ → ℕ
car_above above a b = above - over a b

abbrev pub car : ℕ → ℕ → ℕ → ℕ
car above a b = gap above (over a b)

-- Out(u): of n nodes, those that are not in u's subtree
abbrev pub Out : ℕ → Tree → ℕ
Out n u = n - size u

-- Out(u) times |car(u)| where that is negative
unfoldable pub neg_of : ℕ → ℕ → Tree → ℕ
neg_of n above leaf = 0
neg_of n above (node d a b l r) = Out n (node d a b l r) * car_below above a b

-- car(u) where it is positive
unfoldable pub pos_of : ℕ → Tree → ℕ
pos_of above leaf = 0
pos_of above (node d a b l r) = car_above above a b

-- the carries of all nodes but the root, which has none; n nodes in all
unfoldable pub NEG : ℕ → Tree → ℕ
NEG n leaf = 0
NEG n (node d a b l r) = (neg_of n a l + neg_of n b r) + (NEG n l + NEG n r)

unfoldable pub POS : Tree → ℕ
POS leaf = 0
POS (node d a b l r) = (pos_of a l + pos_of b r) + (POS l + POS r)

-- |bal| of every node, and by how much each is over one
unfoldable pub BAL : Tree → ℕ
BAL leaf = 0
BAL (node d a b l r) = bal a b + (BAL l + BAL r)

unfoldable pub RBAL : Tree → ℕ
RBAL leaf = 0
RBAL (node d a b l r) = (bal a b - 1) + (RBAL l + RBAL r)

unfoldable pub worth_of : Tree → ℕ
worth_of T = 6 * (NEG (size T) T + POS T) + 2 * BAL T + RBAL T

unfoldable pub worth_answer : List ℕ → Answer
worth_answer t = answering (sound_gate t true) (λ c. accepted (word t change_word) (worth_of (tree_in t c)) 0 0)

-- the largest carry and the largest balance, 0 where there is none
unfoldable pub carry_of : ℕ → Tree → ℕ
carry_of above leaf = 0
carry_of above (node d a b l r) = car above a b

unfoldable pub largest_carry : Tree → ℕ
largest_carry leaf = 0
largest_carry (node d a b l r) = max (max (carry_of a l) (carry_of b r)) (max (largest_carry l) (largest_carry r))

unfoldable pub largest_balance : Tree → ℕ
largest_balance leaf = 0
largest_balance (node d a b l r) = max (bal a b) (max (largest_balance l) (largest_balance r))
