-- The paper's Property 1: (NEG, 2 POS + BAL, RBAL) falls in the lexicographic order at every firing. Assumes nothing.
use Prim.Native.Nat.{ℕ, suc, ◌+◌, ◌*◌, ◌-◌, ◌≤◌, ◌<◌}
use mathlib.Core.Path.{◌≡◌, refl, sym, ap}
use mathlib.Core.Bool.{true}
use mathlib.Core.Option.{some}
use mathlib.Core.List.{List}
use native.Mathlib.Omega.{arith}
use native.Mathlib.Decide.{dec_lt}
use native.Mathlib.Numerals.{add-one}
use Rattle.scope.specs.Tree.{Tree, leaf, node, size, over}
use Rattle.scope.specs.Worth.{neg_of, pos_of, NEG, POS, BAL}
use Rattle.scope.specs.Rules.{localh, guard, turned_v, doubled_u, doubled_v}
use Rattle.scope.specs.declared.rule.Pair.{Pair}
use Rattle.scope.specs.declared.side.Side.{Side}
use Rattle.scope.specs.declared.rule.Kind.{Kind}
use Rattle.scope.specs.declared.rule.Kind.TheVariants.{Propagate, Lean, Even, Double}
use Rattle.scope.specs.declared.rule.Rule.{Rule}
use Rattle.tree.specs.Weight.{top_height, weigh, Fair}
use Rattle.tree.specs.Variant.{Triple, Less, first, second, third, variant_of}
use Rattle.tree.specs.Variant.{short, long, imbalance, excess, negative, mixed, uneven, triple}
use Rattle.tree.specs.Measure.{taken, brought, Measure}
use Rattle.tree.specs.Rewrite.{fire_at}
use Rattle.tree.proofs.Worth.Apart.{short-mono, long-down, rise-short, sink-long}
use Rattle.tree.proofs.Worth.Apart.{lean-apart, even-apart, even-excess, double-apart}
use Rattle.tree.proofs.Worth.Sums.{negative-is, mixed-is, uneven-is}
use Rattle.tree.proofs.Firing.Guards.{propagate-says, lean-says, even-says, double-says}
use Rattle.tree.proofs.Worth.Falls.{weights, falls}

-- the three scales are fair
fair-negative : Fair negative
unfolding short
fair-negative = record { none = λ o h. (let z : h - h ≡ 0 = omega arith in rw z (omega arith)); even = λ a b. refl }

fair-mixed : Fair mixed
unfolding long imbalance
fair-mixed = record { none = λ o h. omega arith; even = λ a b. omega arith }

fair-uneven : Fair uneven
unfolding excess
fair-uneven = record { none = λ o h. refl; even = λ a b. omega arith }

-- what falls stays so with the same added on both sides
shifted : (x y p q : Triple) → x.one + p.one ≡ y.one + q.one → x.two + p.two ≡ y.two + q.two
    → x.three + p.three ≡ y.three + q.three → Less q p → Less x y
shifted x y p q a b c (first h) = first (omega arith)
shifted x y p q a b c (second e h) = second (omega arith) (omega arith)
shifted x y p q a b c (third e f h) = third (omega arith) (omega arith) (omega arith)

-- the first does not rise and the second falls
falling : (x y : Triple) → x.one ≤ y.one → x.two < y.two → Less x y
falling x y h k =
    elim (dec_lt x.one y.one) [
      | yes lt ↦ first lt
      | no ge ↦ second (omega arith) k
    ]

-- a local height that falls by one
lower : (o above h k : ℕ) → h ≡ suc k → (short o above k ≤ short o above h) × (long above k ≤ suc (long above h))
lower o above h k e =
    (short-mono o above k h (omega arith), rw (e, ← add-one k) (omega (arith, long-down above k 1)))

-- what a firing brings is below what it takes
lighter : (k : Kind) (o above away : ℕ) (v u w : Pair) → guard k v u w ≡ true
    → Less (triple (brought o above away v u w k)) (triple (taken o above away v u w k))
lighter Propagate o above away v u w g =
    let ne = propagate-says v u w g in
    elim (dec_lt v.near (localh u)) [
      | yes lt ↦ first (omega (arith, rise-short o away v.near v.far (localh u) above lt))
      | no ge ↦
          falling _ _
          (omega (arith, short-mono o above (over (localh u) v.far) (localh v) (omega arith)))
          (omega (arith, sink-long v.near v.far (localh u) above (omega arith)))
    ]
lighter Lean o above away v u w g =
    let h = lean-says v u w g in
    let l = lower o above (localh v) (over u.near (localh (turned_v v u))) (omega arith) in
    falling _ _ (omega arith)
    (omega (arith, lean-apart v.near u.near u.far v.far h.0 h.1 h.2))
lighter Even o above away v u w g =
    let h = even-says v u w g in
    let l : localh v ≡ over u.near (localh (turned_v v u)) = omega arith in
    third (ap (λ k. short o above k + 0) (sym l))
    (omega (arith, ap (long above) l, even-apart v.near u.near u.far v.far h.0 h.1 h.2))
    (omega (arith, even-excess v.near u.near u.far v.far h.0 h.1 h.2))
lighter Double o above away v u w g =
    let h = double-says v u w g in
    let l =
    lower o above (localh v) (over (localh (doubled_u u w)) (localh (doubled_v v w))) (omega arith) in
    falling _ _ (omega arith)
    (omega (
      arith,
      double-apart v.near u.near u.far v.far w.near w.far h.0 h.1 h.2 h.3,
    ))

abbrev variant_measure : Measure
variant_measure =
    record {
      Below = λ f g. Less (triple f) (triple g);
      shift = λ f g p q law.
          shifted (triple f) (triple g) (triple p) (triple q)
          (law negative fair-negative) (law mixed fair-mixed) (law uneven fair-uneven);
      local = lighter;
    }

-- nothing is outside the root, and its own local height leaves no carry
no-outside : (T : Tree) (above : ℕ) → neg_of (size T) above T ≡ 0
unfolding neg_of
no-outside leaf above = refl
no-outside (node d a b l r) above =
    let z : size (node d a b l r) - size (node d a b l r) ≡ 0 = omega arith in rw z (omega arith)

no-carry : (T : Tree) → pos_of (top_height T) T ≡ 0
unfolding pos_of top_height
no-carry leaf = refl
no-carry (node d a b l r) = omega arith

below : (x y z : Triple) → x.one ≡ y.one → x.two ≤ y.two → x.three ≡ y.three → Less y z → Less x z
below x y z a b c (first h) = first (omega arith)
below x y z a b c (second e h) = second (omega arith) (omega arith)
below x y z a b c (third e f h) =
    elim (dec_lt x.two z.two) [
      | yes lt ↦ second (omega arith) lt
      | no ge ↦ third (omega arith) (omega arith) (omega arith)
    ]

root : (T : Tree) → triple (weights T 0 (top_height T)) ≡ variant_of T
root T =
    let a = negative-is T (size T) 0 (top_height T) (omega arith) in
    let b : weigh mixed T 0 (top_height T) ≡ 2 * POS T + BAL T =
    omega (arith, mixed-is T 0 (top_height T), no-carry T) in
    let c : weigh negative T 0 (top_height T) ≡ NEG (size T) T = omega (arith, no-outside T (top_height T)) in
    cc (uneven-is T 0 (top_height T))

-- PROPERTY 1
pub variant-falls : (way : List Side) (r : Rule) (T T' : Tree) → fire_at way r T ≡ some T'
    → Less (variant_of T') (variant_of T)
variant-falls way r T T' e =
    let h = falls variant_measure way r T T' e in
    below (variant_of T') (triple (weights T' 0 (top_height T))) (variant_of T)
    (omega (
      arith,
      negative-is T' (size T') 0 (top_height T) (omega arith),
      no-outside T' (top_height T),
    ))
    (omega (arith, mixed-is T' 0 (top_height T)))
    (omega (arith, uneven-is T' 0 (top_height T)))
    (rw (root T) at (h.below 0 (top_height T)))
