-- The weight that hands the nodes outside down is the worth of the four sums. Assumes nothing.
use Prim.Native.Nat.{ℕ, suc, ◌+◌, ◌*◌, ◌-◌, ◌≤◌}
use mathlib.Core.Path.{◌≡◌, refl}
use native.Mathlib.Omega.{arith}
use Rattle.scope.specs.Tree.{Tree, leaf, node, size, over}
use Rattle.scope.specs.Worth.{neg_of, pos_of, NEG, POS, BAL, RBAL, worth_of}
use Rattle.tree.specs.Weight.{tilt, carry, top_height, under, weigh}
use Rattle.tree.specs.Variant.{short, negative}
use Rattle.tree.proofs.Worth.Sums.{negative-is}

-- the negative carries as a weight, and the other sums
under-negative : (T : Tree) (o above : ℕ)
    → under T o above ≡ 6 * (weigh negative T o above + (pos_of above T + POS T)) + 2 * BAL T + RBAL T
unfolding under weigh pos_of POS BAL RBAL tilt carry short
under-negative leaf o above = refl
under-negative (node d a b l r) o above =
    omega (arith, under-negative l (o + suc (size r)) a, under-negative r (o + suc (size l)) b)

-- under a register, with o nodes outside: the top's own carry and the four sums below it
under-sums : (T : Tree) (n o above : ℕ) → n ≡ o + size T
    → under T o above ≡ 6 * (neg_of n above T + pos_of above T) + (6 * (NEG n T + POS T) + 2 * BAL T + RBAL T)
under-sums T n o above e = omega (arith, under-negative T o above, negative-is T n o above e)

no-carry : (T : Tree) → neg_of (size T) (top_height T) T + pos_of (top_height T) T ≡ 0
unfolding neg_of pos_of top_height
no-carry leaf = refl
no-carry (node d a b l r) = let z : over a b - over a b ≡ 0 = omega arith in rw z (omega arith)

-- the root has no carry: it stands under its own local height
pub worth-under : (T : Tree) → worth_of T ≡ under T 0 (top_height T)
unfolding worth_of
worth-under T = omega (arith, under-sums T (size T) 0 (top_height T) (omega arith), no-carry T)

-- any other register above adds to it
pub worth-least : (T : Tree) (above : ℕ) → worth_of T ≤ under T 0 above
unfolding worth_of
worth-least T above = omega (arith, under-sums T (size T) 0 above (omega arith))
