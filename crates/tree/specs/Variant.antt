-- The paper's three quantities that fall in the lexicographic order, and scales that weigh each of them.
use Rattle.std.specs.Prelude.{ℕ, ◌+◌, ◌*◌, ◌-◌, ◌<◌, ◌≡◌}
use Rattle.scope.specs.Tree.{Tree, size}
use Rattle.scope.specs.Worth.{gap, NEG, POS, BAL, RBAL}
use Rattle.tree.specs.Weight.{Scale}

pub record Triple : Type 0 where
  pub one : ℕ
  pub two : ℕ
  pub three : ℕ

-- x is below y: in the first that differs
pub data Less (x y : Triple) : Type 0 where
  first : x.one < y.one → Less x y
  second : x.one ≡ y.one → x.two < y.two → Less x y
  third : x.one ≡ y.one → x.two ≡ y.two → x.three < y.three → Less x y

abbrev pub variant_of : Tree → Triple
variant_of T = record { one = NEG (size T) T; two = 2 * POS T + BAL T; three = RBAL T }

-- a negative carry with o nodes outside, and a positive one
unfoldable pub short : ℕ → ℕ → ℕ → ℕ
short o above h = o * (h - above)

unfoldable pub long : ℕ → ℕ → ℕ
long above h = above - h

-- a balance, and by how much it is over one
unfoldable pub imbalance : ℕ → ℕ → ℕ
imbalance a b = gap a b

unfoldable pub excess : ℕ → ℕ → ℕ
excess a b = gap a b - 1

abbrev pub negative : Scale
negative = record { carries = short; balances = λ a b. 0 }

abbrev pub mixed : Scale
mixed = record { carries = λ o above h. 2 * long above h; balances = imbalance }

abbrev pub uneven : Scale
uneven = record { carries = λ o above h. 0; balances = excess }

-- a number for each scale
abbrev pub triple : (Scale → ℕ) → Triple
triple f = record { one = f negative; two = f mixed; three = f uneven }
