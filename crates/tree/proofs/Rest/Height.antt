-- How high a balanced tree can be: at most 16 with 4,095 records. Assumes nothing.
use Prim.Native.Nat.{ℕ, zero, suc, ◌+◌, ◌≤◌}
use mathlib.Core.Path.{◌≡◌, refl}
use native.Mathlib.Omega.{arith}
use native.Mathlib.Decide.{dec_le, le_ind}
use Rattle.scope.specs.Numbers.{most_slots}
use Rattle.scope.specs.Tree.{Tree, leaf, node, size, over, true_height}
use Rattle.tree.specs.Shape.{Relaxed, Balanced, Quiet, fewest}
use Rattle.tree.proofs.Rest.Quiet.{quiet-balanced}

-- no tree is higher than it has nodes
pub height-size : (T : Tree) → true_height T ≤ size T
unfolding true_height size
height-size leaf = omega arith
height-size (node d a b l r) = omega (arith, height-size l, height-size r)

fewest-step : (h : ℕ) → fewest h ≤ fewest (suc h)
unfolding fewest
fewest-step zero = omega arith
fewest-step (suc h) = omega arith

fewest-mono : (m n : ℕ) → m ≤ n → fewest m ≤ fewest n
fewest-mono m n h = le_ind (λ k. fewest m ≤ fewest k) (omega arith) (λ k _ ih. omega (arith, fewest-step k)) n h

-- two sons whose heights differ by one at most, the first the higher
fewest-node : (x y : ℕ) → y ≤ x → x ≤ y + 1 → fewest (suc x) ≤ suc (fewest x + fewest y)
unfolding fewest
fewest-node zero y h k = omega arith
fewest-node (suc x) y h k = omega (arith, fewest-mono x y (omega arith))

fewest-over : (x y : ℕ) → x ≤ y + 1 → y ≤ x + 1 → fewest (over x y) ≤ suc (fewest x + fewest y)
fewest-over x y h k =
    elim (dec_le y x) [
      | yes le ↦ let e : over x y ≡ suc x = omega arith in rw e (fewest-node x y le h)
      | no gt ↦ let e : over x y ≡ suc y = omega arith in rw e (omega (arith, fewest-node y x (omega arith) k))
    ]

pub balanced-fewest : (T : Tree) → Balanced T → fewest (true_height T) ≤ size T
unfolding true_height size fewest
balanced-fewest leaf h = omega arith
balanced-fewest (node d a b l r) h =
    omega (
      arith,
      balanced-fewest l h.in_near,
      balanced-fewest r h.in_far,
      fewest-over (true_height l) (true_height r) (omega arith) (omega arith),
    )

pub fewest-17 : fewest 17 ≡ 4180
unfolding fewest
fewest-17 = refl

pub balanced-height : (T : Tree) → Balanced T → size T ≤ most_slots → true_height T ≤ 16
balanced-height T h k =
    elim (dec_le (true_height T) 16) [
      | yes le ↦ le
      | no gt ↦ absurd (omega (arith, fewest-mono 17 (true_height T) (omega arith), balanced-fewest T h, fewest-17))
    ]

-- A QUIET TABLE IS AT MOST 16 HIGH
pub quiet-height : (T : Tree) → Relaxed T → Quiet T → size T ≤ most_slots → true_height T ≤ 16
quiet-height T h q k = balanced-height T (quiet-balanced T h q) k
