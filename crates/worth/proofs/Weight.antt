-- The weight of a tree from those of its sides, its bound, and that at the root it is the worth. Assumes nothing.
use Prim.Native.Nat.{ℕ, ◌+◌, ◌-◌, ◌*◌, ◌≤◌}
use mathlib.Core.Path.{◌≡◌, refl, ap, ◌∙◌}
use mathlib.Core.List.{List}
use native.Mathlib.Nat.{mul-le-mul_left, mul-zero, sub-eq-zero_of_le}
use native.Mathlib.Omega.{arith}
use Rattle.scope.specs.Table.{slot_at}
use Rattle.scope.specs.Numbers.{most_slots}
use Rattle.scope.specs.Tree.{Batch, Tree, leaf, node, size, over}
use Rattle.scope.specs.Worth.{gap, neg_of, pos_of, NEG, POS, BAL, RBAL, worth_of}
use Rattle.scope.specs.Sound.{Spells}
use Rattle.scope.specs.declared.slot.Slot.{Slot}
use Rattle.spelling.proofs.Laws.{fit-left, fit-right}
use Rattle.worth.specs.Weight.{weight_of, own_weight, top_of}

-- a product of a count and a height
pub product : (o h : ℕ) → o ≤ most_slots → h ≤ 65536 → o * h ≤ 268369920
product o h p q = let le = mul-le-mul_left o q in omega arith

-- no height is too low
pub no-product : (o h g : ℕ) → h ≤ g → o * (h - g) ≡ 0
no-product o h g p = ap (λ (x : ℕ). o * x) (sub-eq-zero_of_le p) ∙ mul-zero o

pub own-most : (a b o g : ℕ) → a ≤ 65535 → b ≤ 65535 → o ≤ most_slots → g ≤ 65536 → own_weight a b o g ≤ 2000000000
unfolding own_weight
own-most a b o g pa pb po pg = let h = product o (over a b - g) po (omega arith) in omega arith

-- as the code adds it up
pub own_eq : (s : Slot) (o g : ℕ) {h w p n : ℕ} → h ≡ over s.lefth s.righth → w ≡ o * (h - g) + (g - h)
    → p ≡ gap s.lefth s.righth → n ≡ 2 * p + (p - 1) → 6 * w + n ≡ own_weight s.lefth s.righth o g
unfolding own_weight
own_eq s o g eh ew ep en = cc

-- the four sums over a node, put in order
gather : (X Y p q u v N M P Q g h B C R S : ℕ)
    → 6 * ((X + ((p + q) + (N + M))) + (Y + ((u + v) + (P + Q)))) + 2 * (g + (B + C)) + (h + (R + S))
    ≡ (6 * ((p + N) + (u + P)) + 2 * B + R) + (6 * ((q + M) + (v + Q)) + 2 * C + S) + (6 * (X + Y) + (2 * g + h))
gather X Y p q u v N M P Q g h B C R S = omega arith

pub weight-node : (n above : ℕ) (d : Batch) (a b : ℕ) (l r : Tree)
    → weight_of n above (node d a b l r)
    ≡ weight_of n a l + weight_of n b r + own_weight a b (n - size (node d a b l r)) above
unfolding weight_of own_weight neg_of pos_of NEG POS BAL RBAL
weight-node n above d a b l r =
    gather ((n - size (node d a b l r)) * (over a b - above)) (above - over a b)
    (neg_of n a l) (neg_of n b r) (pos_of a l) (pos_of b r) (NEG n l) (NEG n r) (POS l) (POS r)
    (gap a b) (gap a b - 1) (BAL l) (BAL r) (RBAL l) (RBAL r)

pub weight-leaf : (n above : ℕ) → weight_of n above leaf ≡ 0
unfolding weight_of neg_of pos_of NEG POS BAL RBAL
weight-leaf n above = refl

-- at most two thousand million for each slot
pub weight-most : (t : List ℕ) (c x n above : ℕ) (T : Tree) → Spells t c x T → n ≤ most_slots → above ≤ 65536
    → weight_of n above T ≤ 2000000000 * size T
unfolding Spells size
weight-most t c x n above leaf p h g = omega (arith, weight-leaf n above)
weight-most t c x n above (node d a b l r) p h g =
    let ea : a ≤ 65535 = omega (arith, p.lefth, fit-left c (slot_at t x) p.fit) in
    let eb : b ≤ 65535 = omega (arith, p.righth, fit-right c (slot_at t x) p.fit) in
    omega (
      arith,
      weight-node n above d a b l r,
      own-most a b (n - size (node d a b l r)) above ea eb (omega arith) g,
      weight-most t c (slot_at t x).left n a l p.left h (omega arith),
      weight-most t c (slot_at t x).right n b r p.right h (omega arith),
    )

no-carry : (X Y N P B R : ℕ) → X ≡ 0 → Y ≡ 0 → 6 * ((X + N) + (Y + P)) + 2 * B + R ≡ 6 * (N + P) + 2 * B + R
no-carry X Y N P B R x y = omega arith

-- with no carry at its root a tree weighs what it is worth
pub weight-worth : (T : Tree) → weight_of (size T) (top_of T) T ≡ worth_of T
unfolding weight_of worth_of neg_of pos_of NEG POS size top_of
weight-worth leaf = refl
weight-worth (node d a b l r) =
    let n : ℕ = size (node d a b l r) in
    let T : Tree = node d a b l r in
    no-carry ((n - n) * (over a b - over a b)) (over a b - over a b) (NEG n T) (POS T) (BAL T) (RBAL T)
    (no-product (n - n) (over a b) (over a b) (omega arith)) (sub-eq-zero_of_le (omega arith))
