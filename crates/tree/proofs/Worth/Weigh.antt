-- What the actions do to a weight by any scale: only v's, u's and w's carries and balances change. Assumes nothing.
use Prim.Native.Nat.{ℕ, suc, ◌+◌}
use mathlib.Core.Path.{◌≡◌, refl, ap}
use native.Mathlib.Omega.{arith}
use native.Mathlib.Nat.{max_comm}
use Rattle.scope.specs.Tree.{Batch, Tree, size}
use Rattle.scope.specs.Rules.{localh, turned_v, doubled_u, doubled_v}
use Rattle.scope.specs.declared.rule.Pair.{Pair}
use Rattle.scope.specs.declared.side.Side.{Side}
use Rattle.scope.specs.declared.side.Side.TheVariants.{Left, Right}
use Rattle.scope.specs.declared.rule.Kind.TheVariants.{Propagate, Lean, Double}
use Rattle.tree.specs.Weight.{Scale, weigh, Fair}
use Rattle.tree.specs.Measure.{balance, taken, brought}
use Rattle.tree.specs.Rewrite.{mk, propagated_tree, rotated_tree, doubled}
use Rattle.tree.proofs.Firing.Sides.{size-mk}

module _ (S : Scale) (fair : Fair S) where
  pub weigh-mk : (s : Side) (d : Batch) (x : Pair) (near far : Tree) (o above : ℕ)
      → weigh S (mk s d x near far) o above
      ≡ S.carries o above (localh x)
      + (balance S x + (weigh S near (o + suc (size far)) x.near + weigh S far (o + suc (size near)) x.far))
  unfolding weigh
  weigh-mk Left d x near far o above = refl
  weigh-mk Right d x near far o above =
      rw (max_comm x.far x.near, fair.even x.far x.near) (omega arith)

  -- a subtree's weight at another way to count the nodes outside
  at : (T : Tree) (above : ℕ) {o o' : ℕ} → o ≡ o' → weigh S T o above ≡ weigh S T o' above
  at T above e = ap (λ k. weigh S T k above) e

  module _ (s : Side) (dv du : Batch) (v u : Pair) (m n c : Tree) (o above : ℕ) where
    abbrev before : ℕ
    before = weigh S (mk s dv v (mk s du u m n) c) o above

    -- v's near register now says u's local height
    pub propagated-weigh : weigh S (propagated_tree s dv du v u m n c) o above
        + taken o above (size c) v u u Propagate S
        ≡ before + brought o above (size c) v u u Propagate S
    propagated-weigh =
        simp (weigh-mk, size-mk)
        (omega (arith, fair.none (o + suc (size c)) (localh u)))

    -- u over v, where u was reliable
    pub rotated-weigh : v.near ≡ localh u
        → weigh S (rotated_tree s dv du v u m n c) o above
        + taken o above (size c) v u u Lean S
        ≡ before + brought o above (size c) v u u Lean S
    rotated-weigh e =
        let z : S.carries (o + suc (size c)) v.near (localh u) ≡ 0 = rw e (fair.none _ _) in
        simp (weigh-mk, size-mk)
        (omega (
          arith,
          fair.none (o + suc (size m)) (localh (turned_v v u)),
          at m u.near {o = o + suc (size c) + suc (size n)} {o' = o + suc (suc (size n + size c))} (omega arith),
          at n u.far {o = o + suc (size c) + suc (size m)} {o' = o + suc (size m) + suc (size c)} (omega arith),
          at c v.far {o = o + suc (suc (size m + size n))} {o' = o + suc (size m) + suc (size n)} (omega arith),
        ))

  -- a son of the same size in the place of another
  pub inside-weigh : (s : Side) (d : Batch) (x : Pair) (near near' far : Tree) (o above : ℕ) → size near' ≡ size near
      → weigh S (mk s d x near' far) o above + weigh S near (o + suc (size far)) x.near
      ≡ weigh S (mk s d x near far) o above + weigh S near' (o + suc (size far)) x.near
  inside-weigh s d x near near' far o above e = simp (weigh-mk, e) (omega arith)

  -- w over u and v, where u and w were reliable
  module _ (s : Side) (dv du dw : Batch) (v u w : Pair) (m e f c : Tree) (o above : ℕ) where
    pub doubled-weigh : v.near ≡ localh u → u.far ≡ localh w
        → weigh S (doubled s dv du v u dw w m e f c) o above
        + taken o above (size c) v u w Double S
        ≡ weigh S (mk s dv v (mk s du u m (mk s dw w e f)) c) o above + brought o above (size c) v u w Double S
    doubled-weigh p q =
        let z : S.carries (o + suc (size c)) v.near (localh u) ≡ 0 = rw p (fair.none _ _) in
        let y : S.carries (o + suc (size c) + suc (size m)) u.far (localh w) ≡ 0 = rw q (fair.none _ _) in
        simp (weigh-mk, size-mk)
        (omega (
          arith,
          fair.none (o + suc (suc (size f + size c))) (localh (doubled_u u w)),
          fair.none (o + suc (suc (size m + size e))) (localh (doubled_v v w)),
          at m u.near
              {o = o + suc (size c) + suc (suc (size e + size f))}
              {o' = o + suc (suc (size f + size c)) + suc (size e)}
              (omega arith),
          at e w.near
              {o = o + suc (size c) + suc (size m) + suc (size f)}
              {o' = o + suc (suc (size f + size c)) + suc (size m)}
              (omega arith),
          at f w.far
              {o = o + suc (size c) + suc (size m) + suc (size e)}
              {o' = o + suc (suc (size m + size e)) + suc (size c)}
              (omega arith),
          at c v.far
              {o = o + suc (suc (size m + suc (size e + size f)))}
              {o' = o + suc (suc (size m + size e)) + suc (size f)}
              (omega arith),
        ))
