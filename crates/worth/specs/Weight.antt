-- What a tree weighs, with n nodes in all and a register above it. Assumes nothing: these are definitions.
use Rattle.std.specs.Prelude.{ℕ, ◌+◌, ◌-◌, ◌*◌, ◌≤◌, List}
use Rattle.scope.specs.Numbers.{most_slots}
use Rattle.scope.specs.Tree.{Tree, leaf, node, size, over}
use Rattle.scope.specs.Worth.{gap, neg_of, pos_of, NEG, POS, BAL, RBAL}
use Rattle.scope.specs.declared.slot.Slot.{Slot}
use Rattle.fork.specs.Hangs.{FewHang}
use Rattle.worth.specs.declared.Load.{Load}

-- the four sums, the carry of the tree's own top counted too
unfoldable pub weight_of : ℕ → ℕ → Tree → ℕ
weight_of n above T = 6 * ((neg_of n above T + NEG n T) + (pos_of above T + POS T)) + 2 * BAL T + RBAL T

-- the part of it that one slot adds, with `out` slots outside what hangs there
unfoldable pub own_weight : ℕ → ℕ → ℕ → ℕ → ℕ
own_weight a b out above =
    6 * (out * (over a b - above) + (above - over a b)) + (2 * gap a b + (gap a b - 1))

-- weight and size
unfoldable pub load_of : ℕ → ℕ → Tree → Load
load_of n above T = record { weight = weight_of n above T; slots = size T }

-- the height that the root's registers show, under which the root has no carry
unfoldable pub top_of : Tree → ℕ
top_of leaf = 0
top_of (node d a b l r) = over a b

-- registers and counts in range
pub record Light (s : Slot) (out above : ℕ) : Type 0 where
  pub left : s.lefth ≤ 65535
  pub right : s.righth ≤ 65535
  pub outside : out ≤ most_slots
  pub over_it : above ≤ 65536

-- a walk of at most `more` of n slots, under a register in range
pub record Bearable (more n above : ℕ) : Type 0 where
  pub few : more ≤ n
  pub most : n ≤ most_slots
  pub over_it : above ≤ 65536

-- a tree hangs at link x
abbrev pub Rooted : List ℕ → ℕ → Type 0
Rooted t x = (more : ℕ) × FewHang t more x
