-- The worth as one recursive weight, which hands the number of nodes outside down the tree.
use Rattle.std.specs.Prelude.{ℕ, suc, ◌+◌, ◌*◌, ◌-◌, ◌≡◌}
use Rattle.scope.specs.Tree.{Tree, leaf, node, size, over}
use Rattle.scope.specs.Worth.{gap}

-- what an apparent balance weighs
unfoldable pub tilt : ℕ → ℕ → ℕ
tilt a b = 2 * gap a b + (gap a b - 1)

-- what a carry weighs before it is taken six times: o nodes outside, the register above, the local height
unfoldable pub carry : ℕ → ℕ → ℕ → ℕ
carry o above h = o * (h - above) + (above - h)

-- the local height of the top node, 0 where there is none
unfoldable pub top_height : Tree → ℕ
top_height leaf = 0
top_height (node d a b l r) = over a b

-- the weight of a subtree with o nodes outside it, under the register above
unfoldable pub under : Tree → ℕ → ℕ → ℕ
under leaf o above = 0
under (node d a b l r) o above =
    6 * carry o above (over a b) + (tilt a b + (under l (o + suc (size r)) a + under r (o + suc (size l)) b))

-- what a carry and what a balance counts for
pub record Scale : Type 0 where
  pub carries : ℕ → ℕ → ℕ → ℕ
  pub balances : ℕ → ℕ → ℕ

-- the same weight by any scale
unfoldable pub weigh : Scale → Tree → ℕ → ℕ → ℕ
weigh S leaf o above = 0
weigh S (node d a b l r) o above =
    S.carries o above (over a b)
    + (S.balances a b + (weigh S l (o + suc (size r)) a + weigh S r (o + suc (size l)) b))

-- a scale by which no carry weighs nothing, and a balance the same on either side
pub record Fair (S : Scale) : Type 0 where
  pub none : (o h : ℕ) → S.carries o h h ≡ 0
  pub even : (a b : ℕ) → S.balances a b ≡ S.balances b a
