-- The paper's three quantities as weights: each is its sum, and the top's own carry. Assumes nothing.
use Prim.Native.Nat.{ℕ, suc, ◌+◌, ◌*◌, ◌-◌}
use mathlib.Core.Path.{◌≡◌, refl}
use native.Mathlib.Omega.{arith}
use Rattle.scope.specs.Tree.{Tree, leaf, node, size}
use Rattle.scope.specs.Worth.{neg_of, pos_of, NEG, POS, BAL, RBAL}
use Rattle.tree.specs.Weight.{weigh}
use Rattle.tree.specs.Variant.{short, long, imbalance, excess, negative, mixed, uneven}

pub negative-is : (T : Tree) (n o above : ℕ) → n ≡ o + size T → weigh negative T o above ≡ neg_of n above T + NEG n T
unfolding weigh size neg_of NEG short
negative-is leaf n o above e = refl
negative-is (node d a b l r) n o above e =
    let f : n - suc (size l + size r) ≡ o = omega arith in
    rw f
    (omega (
      arith,
      negative-is l n (o + suc (size r)) a (omega arith),
      negative-is r n (o + suc (size l)) b (omega arith),
    ))

pub mixed-is : (T : Tree) (o above : ℕ) → weigh mixed T o above ≡ 2 * pos_of above T + (2 * POS T + BAL T)
unfolding weigh pos_of POS BAL long imbalance
mixed-is leaf o above = refl
mixed-is (node d a b l r) o above =
    omega (arith, mixed-is l (o + suc (size r)) a, mixed-is r (o + suc (size l)) b)

pub uneven-is : (T : Tree) (o above : ℕ) → weigh uneven T o above ≡ RBAL T
unfolding weigh RBAL excess
uneven-is leaf o above = refl
uneven-is (node d a b l r) o above =
    omega (arith, uneven-is l (o + suc (size r)) a, uneven-is r (o + suc (size l)) b)
