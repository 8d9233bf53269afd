-- A node seen from either side: size, heights, records, what holds at it; the sides differ only here. Assumes nothing.
use Prim.Native.Nat.{ℕ, suc, ◌+◌}
use mathlib.Core.Path.{◌≡◌, refl}
use mathlib.Core.List.{List, ◌∷◌, ◌++◌, append_assoc}
use native.Mathlib.Omega.{arith}
use Rattle.scope.specs.Tree.{Batch, Tree, size, in_order, times, same}
use Rattle.scope.specs.Rules.{localh}
use Rattle.scope.specs.declared.rule.Pair.{Pair}
use Rattle.scope.specs.declared.side.Side.{Side}
use Rattle.scope.specs.declared.side.Side.TheVariants.{Left, Right}
use Rattle.tree.specs.Weight.{top_height}
use Rattle.tree.specs.Rewrite.{mk}
use Rattle.tree.specs.Shape.{Sides, Each, Beside}

-- the records on the near side, a record, and those on the far side, from left to right
abbrev pub in_between : Side → List Batch → Batch → List Batch → List Batch
in_between Left near d far = near ++ (d ∷ far)
in_between Right near d far = far ++ (d ∷ near)

pub between-turns : (s : Side) (du dv : Batch) (m n c : List Batch)
    → in_between s m du (in_between s n dv c) ≡ in_between s (in_between s m du n) dv c
between-turns Left du dv m n c = simp append_assoc
between-turns Right du dv m n c = simp append_assoc

module _ (s : Side) (d : Batch) (x : Pair) (near far : Tree) where
  pub size-mk : size (mk s d x near far) ≡ suc (size near + size far)
  unfolding size
  size-mk = elim s as (λ s. size (mk s d x near far) ≡ suc (size near + size far)) [ Left ↦ refl | Right ↦ omega arith ]

  pub times-mk : (k : ℕ) → times k (mk s d x near far) ≡ same k d.slot + (times k near + times k far)
  unfolding times
  times-mk k = elim s as (λ s. times k (mk s d x near far) ≡ same k d.slot + (times k near + times k far)) [ Left ↦ refl | Right ↦ omega arith ]

  pub top-mk : top_height (mk s d x near far) ≡ localh x
  unfolding top_height
  top-mk = elim s as (λ s. top_height (mk s d x near far) ≡ localh x) [ Left ↦ refl | Right ↦ omega arith ]

  pub order-mk : in_order (mk s d x near far) ≡ in_between s (in_order near) d (in_order far)
  unfolding in_order
  order-mk = elim s as (λ s. in_order (mk s d x near far) ≡ in_between s (in_order near) d (in_order far)) [ Left ↦ refl | Right ↦ refl ]

  pub beside-mk : (a : ℕ) → Beside a (mk s d x near far)
  beside-mk a = elim s as (λ s. Beside a (mk s d x near far)) [ Left ↦ tt | Right ↦ tt ]

  -- what holds at every node holds on both sides of this one and in its sons, and the other way round
  module _ (Q : ℕ → ℕ → Tree → Type 0) where
    abbrev pub Both : Type 0
    Both = Sides (Q x.near x.far near) (Q x.far x.near far) (Each Q near) (Each Q far)

    pub each_in : Each Q (mk s d x near far) → Both
    each_in = elim s as (λ s. Each Q (mk s d x near far) → Both) [
      | Left ↦ λ h. h
      | Right ↦ λ h. record { near = h.far; far = h.near; in_near = h.in_far; in_far = h.in_near }
    ]

    pub each-out : Both → Each Q (mk s d x near far)
    each-out = elim s as (λ s. Both → Each Q (mk s d x near far)) [
      | Left ↦ λ h. h
      | Right ↦ λ h. record { near = h.far; far = h.near; in_near = h.in_far; in_far = h.in_near }
    ]
