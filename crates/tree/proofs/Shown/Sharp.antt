-- The numbers matter: 7 for 6, all nodes for those outside, or 15 for 16 would be wrong. Assumes nothing.
use Prim.Native.Nat.{ℕ, zero, suc, ◌+◌, ◌*◌, ◌-◌, ◌≤◌, ◌<◌}
use mathlib.Core.Path.{◌≡◌, refl, ap}
use mathlib.Core.Option.{some}
use mathlib.Core.List.{List, [], ◌∷◌}
use native.Mathlib.Omega.{arith}
use borrow.Author.Tests.{eq-eqb, ne_eqb, lt-ltb}
use Rattle.scope.specs.Tree.{Batch, Tree, leaf, node, size, true_height, Above, Below, Ordered}
use Rattle.scope.specs.Worth.{neg_of, pos_of, NEG, POS, BAL, RBAL}
use Rattle.scope.specs.declared.side.Side.{Side}
use Rattle.scope.specs.declared.side.Side.TheVariants.{Left}
use Rattle.scope.specs.declared.rule.Kind.TheVariants.{Propagate, Lean}
use Rattle.scope.specs.declared.rule.Rule.{Rule}
use Rattle.tree.specs.Weight.{top_height, Scale, weigh}
use Rattle.tree.specs.Rewrite.{rule_on, fire_at, rewrite_top, rewrite_at}
use Rattle.tree.specs.Seek.{seek, visits}
use Rattle.tree.specs.Shape.{Beside, Relaxed, Balanced, Quiet, fewest}
use Rattle.tree.proofs.Rest.Quiet.{balanced-quiet}
use Rattle.tree.proofs.Keys.Bounds.{below_more, above_more}
use Rattle.tree.proofs.Shown.Marked.{batch}
use Rattle.tree.proofs.Shown.Paper.{HeightRelaxed}

-- every accepted firing of a tree that a sound table can have lowers a number
abbrev Variant : (Tree → ℕ) → Type 0
Variant f = (way : List Side) (r : Rule) (T T' : Tree) → HeightRelaxed T → fire_at way r T ≡ some T' → f T' < f T

-- such a tree with one record more above it, whose key is larger than all
module _ (k a : ℕ) (d : Batch) (x y : ℕ) (l r : Tree) where
  above-all : HeightRelaxed (node d x y l r) → Below k (node d x y l r)
      → HeightRelaxed (node (batch k) a 0 (node d x y l r) leaf)
  unfolding Ordered Above
  above-all h b =
      record {
        ordered = (b, tt, h.ordered, tt);
        relaxed = record { near = tt; far = refl; in_near = h.relaxed; in_far = tt };
      }

alone : (k : ℕ) → HeightRelaxed (node (batch k) 0 0 leaf leaf)
unfolding Ordered Above Below
alone k =
    record { ordered = (tt, tt, tt, tt); relaxed = record { near = refl; far = refl; in_near = tt; in_far = tt } }

-- carries taken seven times: a chain of four, all registers right, whose middle rotates
abbrev seven : Tree → ℕ
seven T = 7 * (NEG (size T) T + POS T) + 2 * BAL T + RBAL T

abbrev chain : Tree
chain = node (batch 4) 3 0 (node (batch 3) 2 0 (node (batch 2) 1 0 (node (batch 1) 0 0 leaf leaf) leaf) leaf) leaf

abbrev turned : Tree
turned = node (batch 4) 3 0 (node (batch 2) 1 1 (node (batch 1) 0 0 leaf leaf) (node (batch 3) 0 0 leaf leaf)) leaf

chain-relaxed : HeightRelaxed chain
unfolding Below
chain-relaxed =
    above-all 4 3 _ _ _ _ _
    (above-all 3 2 _ _ _ _ _ (above-all 2 1 _ _ _ _ _ (alone 1) (omega arith, tt, tt)) (omega arith, (omega arith, tt, tt), tt))
    (omega arith, (omega arith, (omega arith, tt, tt), tt), tt)

chain-turns : fire_at (Left ∷ []) (rule_on Lean Left) chain ≡ some turned
unfolding rewrite_at rewrite_top
chain-turns = refl

seven-stays : seven turned ≡ seven chain
unfolding NEG POS BAL RBAL neg_of pos_of size
seven-stays = refl

pub not-seven : Variant seven → ⊥
not-seven v = omega (arith, v (Left ∷ []) (rule_on Lean Left) chain turned chain-relaxed chain-turns, seven-stays)

-- all n nodes for those outside: three posted one below the other, where the lowest height goes up one node
abbrev lacking : Scale
lacking = record { carries = λ o above h. h - above; balances = λ a b. 0 }

abbrev whole : Tree → ℕ
whole T = 6 * (size T * weigh lacking T 0 (top_height T) + POS T) + 2 * BAL T + RBAL T

abbrev posted : ℕ → Tree
posted h = node (batch 3) 0 0 (node (batch 2) h 0 (node (batch 1) 0 0 leaf leaf) leaf) leaf

posted-relaxed : HeightRelaxed (posted 0)
unfolding Below
posted-relaxed =
    above-all 3 0 _ _ _ _ _ (above-all 2 0 _ _ _ _ _ (alone 1) (omega arith, tt, tt)) (omega arith, (omega arith, tt, tt), tt)

posted-carries : fire_at (Left ∷ []) (rule_on Propagate Left) (posted 0) ≡ some (posted 1)
unfolding rewrite_at rewrite_top
posted-carries = refl

whole-rises : whole (posted 1) ≡ whole (posted 0) + 2
unfolding POS BAL RBAL pos_of size weigh top_height
whole-rises = refl

pub not-whole : Variant whole → ⊥
not-whole v =
    omega (arith, v (Left ∷ []) (rule_on Propagate Left) (posted 0) (posted 1) posted-relaxed posted-carries, whole-rises)

-- the sparsest balanced tree of a height, with the keys from k + 1 on
unfoldable sparse : ℕ → ℕ → Tree
sparse zero k = leaf
sparse (suc zero) k = node (batch (suc k)) 0 0 leaf leaf
sparse (suc (suc h)) k =
    let root = suc (k + fewest (suc h)) in
    node (batch root) (suc h) h (sparse (suc h) k) (sparse h root)

-- the slots from left to right are those after k, and each is its record's key
abbrev pub SlotsNumbered : ℕ → Tree → Type 0
SlotsNumbered k leaf = Unit {0}
SlotsNumbered k (node d a b l r) =
    (d ≡ batch (suc (k + size l))) × SlotsNumbered k l × SlotsNumbered (suc (k + size l)) r

record Sparse (h k : ℕ) (T : Tree) : Type 0 where
  count : size T ≡ fewest h
  numbered : SlotsNumbered k T
  high : true_height T ≡ h
  balanced : Balanced T
  above : Above k T
  below : Below (suc (k + fewest h)) T
  ordered : Ordered T

sparse-is : (h k : ℕ) → Sparse h k (sparse h k)
unfolding sparse size true_height fewest Above Below Ordered
sparse-is zero k = record { count = refl; numbered = tt; high = refl; balanced = tt; above = tt; below = tt; ordered = tt }
sparse-is (suc zero) k =
    record {
      count = refl;
      numbered = (ap batch (omega arith), tt, tt);
      high = refl;
      balanced = record { near = (refl, omega arith); far = (refl, omega arith); in_near = tt; in_far = tt };
      above = (omega arith, tt, tt);
      below = (omega arith, tt, tt);
      ordered = (tt, tt, tt, tt);
    }
sparse-is (suc (suc h)) k =
    let root : ℕ = suc (k + fewest (suc h)) in
    let x = sparse-is (suc h) k in
    let y = sparse-is h root in
    record {
      count = omega (arith, x.count, y.count);
      numbered = rw x.count (refl, x.numbered, y.numbered);
      high = omega (arith, x.high, y.high);
      balanced = record {
        near = (omega (arith, x.high), omega arith);
        far = (omega (arith, y.high), omega arith);
        in_near = x.balanced;
        in_far = y.balanced;
      };
      above = (omega arith, x.above, above_more {b = root} {b' = k} (sparse h root) (omega arith) y.above);
      below = (
        omega arith,
        below_more {b = root} {b' = suc (k + fewest (suc (suc h)))} (sparse (suc h) k) (omega arith) x.below,
        below_more {b = suc (root + fewest h)} {b' = suc (k + fewest (suc (suc h)))} (sparse h root) (omega arith) y.below,
      );
      ordered = (x.below, y.above, x.ordered, y.ordered);
    }

relaxed : (T : Tree) → Balanced T → Relaxed T
unfolding true_height
relaxed leaf h = tt
relaxed (node d a b l r) h =
    record {
      near = beside a l h.near.0;
      far = beside b r h.far.0;
      in_near = relaxed l h.in_near;
      in_far = relaxed r h.in_far;
    }
  where
    beside : (a : ℕ) (T : Tree) → a ≡ true_height T → Beside a T
    beside a leaf e = e
    beside a (node d x y p q) e = tt

-- the walk to its smallest key goes down the higher side all the way
some_left : (h : ℕ) → 1 ≤ fewest (suc h)
unfolding fewest
some_left zero = omega arith
some_left (suc h) = omega arith

sparse-walk : (h k : ℕ) → (visits (suc k) (sparse (suc h) k) ≡ suc h) × (seek (suc k) (sparse (suc h) k) ≡ some (batch (suc k)))
unfolding sparse visits seek
sparse-walk zero k = rw (eq-eqb (suc k) (suc k) refl) (refl, refl)
sparse-walk (suc h) k =
    let root : ℕ = suc (k + fewest (suc h)) in
    let down = sparse-walk h k in
    rw (ne_eqb (suc k) root (λ e. omega (arith, some_left h)), lt-ltb (suc k) root (omega (arith, some_left h)))
    (ap suc down.0, down.1)

-- a tree that a sound table can have, with no guard holding, in which a walk visits 16 of 2,583 records
pub record Sixteen : Type 0 where
  pub tree : Tree
  pub relaxed : HeightRelaxed tree
  pub balanced : Balanced tree
  pub quiet : Quiet tree
  pub numbered : SlotsNumbered 0 tree
  pub count : size tree ≡ 2583
  pub high : true_height tree ≡ 16
  pub walk : visits 1 tree ≡ 16
  pub found : seek 1 tree ≡ some (batch 1)

pub sixteen : Sixteen
unfolding fewest
sixteen =
    let x = sparse-is 16 0 in
    let y = sparse-walk 15 0 in
    record {
      tree = sparse 16 0;
      relaxed = record { ordered = x.ordered; relaxed = relaxed (sparse 16 0) x.balanced };
      balanced = x.balanced;
      quiet = balanced-quiet (sparse 16 0) x.balanced;
      numbered = x.numbered;
      count = x.count;
      high = x.high;
      walk = y.0;
      found = y.1;
    }
