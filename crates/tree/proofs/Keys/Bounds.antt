-- Keys in order: as a test, as a statement, and by bounds. Assumes nothing.
use Prim.Native.Nat.{ℕ, ◌≤◌}
use mathlib.Core.Path.{◌≡◌, refl}
use mathlib.Core.Bool.{true, ◌&&◌}
use native.Mathlib.Omega.{arith}
use lib.Dec.{ltb}
use borrow.Author.Tests.{ltb-true, lt-ltb}
use Rattle.scope.proofs.Bools.{and_l, and_r, both}
use Rattle.scope.specs.Tree.{Tree, leaf, node, all_below, all_above, ordered, Below, Above, Ordered}
use Rattle.tree.specs.Between.{Between}

-- the tests pass exactly where the statements hold
pub below-says : (b : ℕ) (T : Tree) → all_below b T ≡ true → Below b T
unfolding all_below Below
below-says b leaf e = tt
below-says b (node d h g l r) e =
    let q = and_r (ltb d.key b) (all_below b l && all_below b r) e in
    (ltb-true _ _ (and_l _ _ e), below-says b l (and_l _ _ q), below-says b r (and_r (all_below b l) _ q))

pub below-test : (b : ℕ) (T : Tree) → Below b T → all_below b T ≡ true
unfolding all_below Below
below-test b leaf p = refl
below-test b (node d h g l r) p = both (lt-ltb _ _ p.0) (both (below-test b l p.1) (below-test b r p.2))

pub above-says : (b : ℕ) (T : Tree) → all_above b T ≡ true → Above b T
unfolding all_above Above
above-says b leaf e = tt
above-says b (node d h g l r) e =
    let q = and_r (ltb b d.key) (all_above b l && all_above b r) e in
    (ltb-true _ _ (and_l _ _ e), above-says b l (and_l _ _ q), above-says b r (and_r (all_above b l) _ q))

pub above-test : (b : ℕ) (T : Tree) → Above b T → all_above b T ≡ true
unfolding all_above Above
above-test b leaf p = refl
above-test b (node d h g l r) p = both (lt-ltb _ _ p.0) (both (above-test b l p.1) (above-test b r p.2))

pub ordered-says : (T : Tree) → ordered T ≡ true → Ordered T
unfolding ordered Ordered
ordered-says leaf e = tt
ordered-says (node d h g l r) e =
    let p = and_l (all_below d.key l && all_above d.key r) (ordered l && ordered r) e in
    let q = and_r (all_below d.key l && all_above d.key r) (ordered l && ordered r) e in (
      below-says _ l (and_l _ _ p),
      above-says _ r (and_r (all_below d.key l) _ p),
      ordered-says l (and_l _ _ q),
      ordered-says r (and_r (ordered l) _ q),
    )

pub ordered-test : (T : Tree) → Ordered T → ordered T ≡ true
unfolding ordered Ordered
ordered-test leaf p = refl
ordered-test (node d h g l r) p =
    both (both (below-test _ l p.0) (above-test _ r p.1)) (both (ordered-test l p.2) (ordered-test r p.3))

-- a wider bound holds too
pub below_more : {b b' : ℕ} (T : Tree) → b ≤ b' → Below b T → Below b' T
unfolding Below
below_more leaf h p = tt
below_more (node d a g l r) h p = (omega (arith, p.0), below_more l h p.1, below_more r h p.2)

pub above_more : {b b' : ℕ} (T : Tree) → b' ≤ b → Above b T → Above b' T
unfolding Above
above_more leaf h p = tt
above_more (node d a g l r) h p = (omega (arith, p.0), above_more l h p.1, above_more r h p.2)

-- the order by bounds is the order of the statement, between those bounds
pub record Bounded (low high : ℕ) (T : Tree) : Type 0 where
  pub above : Above low T
  pub below : Below high T
  pub order : Ordered T

pub bounded : (low high : ℕ) (T : Tree) → Between low high T → Bounded low high T
unfolding Between Above Below Ordered
bounded low high leaf p = record { above = tt; below = tt; order = tt }
bounded low high (node d a g l r) p =
    let x = bounded low d.key l p.2 in
    let y = bounded d.key high r p.3 in
    record {
      above = (p.0, x.above, above_more r (omega arith) y.above);
      below = (p.1, below_more l (omega arith) x.below, y.below);
      order = (x.below, y.above, x.order, y.order);
    }

pub between : (low high : ℕ) (T : Tree) → Bounded low high T → Between low high T
unfolding Between Above Below Ordered
between low high leaf p = tt
between low high (node d a g l r) p = (
  p.above.0,
  p.below.0,
  between low d.key l (record { above = p.above.1; below = p.order.0; order = p.order.2 }),
  between d.key high r (record { above = p.order.1; below = p.below.2; order = p.order.3 }),
)
