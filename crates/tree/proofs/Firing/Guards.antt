-- What each guard says in numbers, and when it holds. Assumes nothing.
use Prim.Native.Nat.{suc, ◌+◌, ◌≤◌, ◌<◌}
use mathlib.Core.Path.{◌≡◌, refl}
use mathlib.Core.Logic.{◌≢◌}
use mathlib.Core.Bool.{Bool, true, ◌&&◌}
use native.Mathlib.Omega.{arith}
use lib.Dec.{ltb, eqb}
use borrow.Author.Tests.{eqb-true, eqb-false, leb-true, ltb-true, not-true, eq-eqb, ne_eqb, le-leb, lt-ltb}
use Rattle.scope.specs.Rules.{localh, reliable, heavy, guard, highest}
use Rattle.scope.specs.declared.rule.Pair.{Pair}
use Rattle.scope.proofs.Bools.{and_l, and_r}
use Rattle.scope.specs.declared.rule.Kind.{Kind}
use Rattle.scope.specs.declared.rule.Kind.TheVariants.{Propagate, Lean, Even, Double}

three : (a b c : Bool) → (a && b && c) ≡ true → (a ≡ true) × (b ≡ true) × (c ≡ true)
three a b c e = (and_l a b (and_l (a && b) c e), and_r a b (and_l (a && b) c e), and_r (a && b) c e)

module _ (v u w : Pair) where
  pub propagate-says : guard Propagate v u w ≡ true → v.near ≢ localh u
  propagate-says g = eqb-false v.near (localh u) (not-true _ g)

  -- v's near register is one more than u's higher one, and u leans out, is even, or leans in
  pub lean-says : guard Lean v u w ≡ true → (v.near ≡ suc u.near) × (u.far < u.near) × (v.far < u.near)
  lean-says g =
      let x = three (reliable v.near u) (heavy v) (ltb u.far u.near) g in
      let e = eqb-true v.near (localh u) x.0 in
      let h = leb-true (v.far + 2) v.near x.1 in
      let k = ltb-true u.far u.near x.2 in
      omega arith

  pub even-says : guard Even v u w ≡ true → (v.near ≡ suc u.near) × (u.far ≡ u.near) × (v.far < u.near)
  even-says g =
      let x = three (reliable v.near u) (heavy v) (eqb u.far u.near) g in
      let e = eqb-true v.near (localh u) x.0 in
      let h = leb-true (v.far + 2) v.near x.1 in
      let k = eqb-true u.far u.near x.2 in
      omega arith

  pub double-says : guard Double v u w ≡ true
      → (v.near ≡ suc u.far) × (u.far ≡ localh w) × (u.near < u.far) × (v.far < u.far)
  double-says g =
      let x = three (reliable v.near u && reliable u.far w) (heavy v) (ltb u.near u.far) g in
      let e = eqb-true v.near (localh u) (and_l _ (reliable u.far w) x.0) in
      let f = eqb-true u.far (localh w) (and_r (reliable v.near u) _ x.0) in
      let h = leb-true (v.far + 2) v.near x.1 in
      let k = ltb-true u.near u.far x.2 in
      omega arith

  -- the other way round
  pub propagate-holds : v.near ≢ localh u → guard Propagate v u w ≡ true
  propagate-holds ne = simp (ne_eqb _ _ ne)

  module _ (e : v.near ≡ localh u) (h : v.far + 2 ≤ v.near) where
    pub lean-holds : u.far < u.near → guard Lean v u w ≡ true
    lean-holds k = simp (eq-eqb _ _ e, le-leb _ _ h, lt-ltb _ _ k)

    pub even-holds : u.far ≡ u.near → guard Even v u w ≡ true
    even-holds k = simp (eq-eqb _ _ e, le-leb _ _ h, eq-eqb _ _ k)

    pub double-holds : u.near < u.far → u.far ≡ localh w → guard Double v u w ≡ true
    double-holds k f = simp (eq-eqb _ _ e, eq-eqb _ _ f, le-leb _ _ h, lt-ltb _ _ k)

  -- only a propagation can be due too high: what a rotation works out is at most v's near register
  pub rotation-height : (k : Kind) → (k ≡ Propagate → ⊥) → guard k v u w ≡ true → highest k v u w ≤ v.near
  rotation-height Propagate ne g = absurd (ne refl)
  rotation-height Lean ne g = omega (arith, lean-says g)
  rotation-height Even ne g = omega (arith, even-says g)
  rotation-height Double ne g = omega (arith, double-says g)
