-- A rewriting that comes out is a step, and a step comes out; at any place, by one induction. Assumes nothing.
use mathlib.Core.Path.{◌≡◌, refl}
use mathlib.Core.Bool.{Bool, true, false}
use mathlib.Core.Option.{Option, none, some}
use mathlib.Core.List.{List, [], ◌∷◌}
use Rattle.scope.proofs.Bools.{never}
use Rattle.scope.specs.Tree.{Batch, Tree, leaf, node}
use Rattle.scope.specs.Rules.{pair}
use Rattle.scope.specs.declared.rule.Pair.{Pair}
use Rattle.scope.specs.declared.side.Side.{Side}
use Rattle.scope.specs.declared.side.Side.TheVariants.{Left, Right}
use Rattle.scope.specs.declared.rule.Kind.{Kind}
use Rattle.scope.specs.declared.rule.Kind.TheVariants.{Propagate, Lean, Even, Double}
use Rattle.scope.specs.declared.rule.Rule.{Rule}
use Rattle.tree.specs.Rewrite.{mk, on_top, when, Test, act, over_near, rewrite_top, rewrite_at}
use Rattle.tree.specs.Step.{Step, propagates, leans, evens, doubles}

pub no-tree {ℓ} : {P : Type ℓ} {T : Tree} → none ≡ some T → P
no-tree {T = T} e = never cc

pub none-there : (o : Option Tree) → ((T : Tree) → o ≡ some T → ⊥) → o ≡ none
none-there none f = refl
none-there (some T) f = absurd (f T refl)

-- every tree is no node, or a node seen from a side
pub by_side {ℓ} : (s : Side) (P : Tree → Type ℓ) (T : Tree) → P leaf
    → ((d : Batch) (x : Pair) (near far : Tree) → P (mk s d x near far)) → P T
by_side s P leaf z f = z
by_side Left P (node d a b l r) z f = f d (pair a b) l r
by_side Right P (node d a b l r) z f = f d (pair b a) r l

-- what comes of a tree comes of its top
pub on-top : (s : Side) (T T' : Tree) (f : Batch → Pair → Tree → Tree → Option Tree)
    → on_top s T f ≡ some T' → (P : Tree → Type 0)
    → ((d : Batch) (x : Pair) (near far : Tree) → f d x near far ≡ some T' → P (mk s d x near far)) → P T
on-top s leaf T' f e P k = no-tree e
on-top Left (node d a b l r) T' f e P k = k d (pair a b) l r e
on-top Right (node d a b l r) T' f e P k = k d (pair b a) r l e

pub top-is : (s : Side) (d : Batch) (x : Pair) (near far : Tree) (f : Batch → Pair → Tree → Tree → Option Tree)
    → on_top s (mk s d x near far) f ≡ f d x near far
top-is Left d x near far f = refl
top-is Right d x near far f = refl

-- what passed its test
passed : (g : Bool) (X T : Tree) → when g X ≡ some T → (P : Tree → Type 0) → (g ≡ true → P X) → P T
passed true X T e P k = let q : X ≡ T = cc in rw (← q) (k refl)
passed false X T e P k = no-tree e

module _ (test : Test) where
  acted : (k : Kind) (s : Side) (dv : Batch) (v : Pair) (c : Tree) (du : Batch) (u : Pair) (m n T' : Tree)
      → act test k s dv v c du u m n ≡ some T' → Step test s k (mk s dv v (mk s du u m n) c) T'
  acted Propagate s dv v c du u m n T' e = passed _ _ T' e (Step test s Propagate _) (λ g. propagates dv du v u m n c g)
  acted Lean s dv v c du u m n T' e = passed _ _ T' e (Step test s Lean _) (λ g. leans dv du v u m n c g)
  acted Even s dv v c du u m n T' e = passed _ _ T' e (Step test s Even _) (λ g. evens dv du v u m n c g)
  acted Double s dv v c du u m n T' e =
      on-top s n T' _ e (λ N. Step test s Double (mk s dv v (mk s du u m N) c) T')
      (λ dw w e f q. passed _ _ T' q (Step test s Double _) (λ g. doubles dv du dw v u w m e f c g))

  -- a rewriting at the top is a step
  pub stepped : (r : Rule) (T T' : Tree) → rewrite_top test r T ≡ some T' → Step test r.side r.kind T T'
  unfolding rewrite_top
  stepped r T T' e =
      on-top r.side T T' _ e (λ X. Step test r.side r.kind X T')
      (λ dv v near c p. on-top r.side near T' _ p (λ X. Step test r.side r.kind (mk r.side dv v X c) T')
      (λ du u m n q. acted r.kind r.side dv v c du u m n T' q))

  -- and a step comes out
  steps-act : (k : Kind) (s : Side) (T T' : Tree) → Step test s k T T'
      → on_top s T (λ dv v near c. on_top s near (λ du u m n. act test k s dv v c du u m n)) ≡ some T'
  steps-act k s T T' (propagates dv du v u m n c g) = simp (top-is, g)
  steps-act k s T T' (leans dv du v u m n c g) = simp (top-is, g)
  steps-act k s T T' (evens dv du v u m n c g) = simp (top-is, g)
  steps-act k s T T' (doubles dv du dw v u w m e f c g) = simp (top-is, g)

  pub steps : (r : Rule) (T T' : Tree) → Step test r.side r.kind T T' → rewrite_top test r T ≡ some T'
  unfolding rewrite_top
  steps r T T' x = steps-act r.kind r.side T T' x

  hung-is : (s : Side) (d : Batch) (x : Pair) (o : Option Tree) (far T' : Tree)
      → over_near s d x o far ≡ some T' → (P : Tree → Type 0)
      → ((near : Tree) → o ≡ some near → P (mk s d x near far)) → P T'
  hung-is s d x none far T' e P k = no-tree e
  hung-is s d x (some near) far T' e P k = let q : mk s d x near far ≡ T' = cc in rw (← q) (k near refl)

  -- what holds of every step at the top, and goes from a son to its node, holds of a rewriting at the end of any way
  pub along : (r : Rule) (R : List Side → Tree → Tree → Type 0)
      → ((T T' : Tree) → Step test r.side r.kind T T' → R [] T T')
      → ((way : List Side) (s : Side) (d : Batch) (x : Pair) (near near' far : Tree) → R way near near'
      → R (s ∷ way) (mk s d x near far) (mk s d x near' far))
      → (way : List Side) (T T' : Tree) → rewrite_at test way r T ≡ some T' → R way T T'
  unfolding rewrite_at
  along r R top inside [] T T' e = top T T' (stepped r T T' e)
  along r R top inside (s ∷ way) T T' e =
      on-top s T T' _ e (λ X. R (s ∷ way) X T')
      (λ d x near far p. hung-is s d x (rewrite_at test way r near) far T' p (R (s ∷ way) (mk s d x near far))
      (λ near' q. inside way s d x near near' far (along r R top inside way near near' q)))

  -- where the way does not matter
  pub anywhere : (R : Tree → Tree → Type 0) → ((s : Side) (k : Kind) (T T' : Tree) → Step test s k T T' → R T T')
      → ((s : Side) (d : Batch) (x : Pair) (near near' far : Tree) → R near near'
      → R (mk s d x near far) (mk s d x near' far))
      → (way : List Side) (r : Rule) (T T' : Tree) → rewrite_at test way r T ≡ some T' → R T T'
  anywhere R top inside way r =
      along r (λ w. R) (top r.side r.kind) (λ w. inside) way

  -- a rewriting of the near son is one of the node
  pub from-near : (way : List Side) (r : Rule) (s : Side) (d : Batch) (x : Pair) (near near' far : Tree)
      → rewrite_at test way r near ≡ some near'
      → rewrite_at test (s ∷ way) r (mk s d x near far) ≡ some (mk s d x near' far)
  unfolding rewrite_at
  from-near way r s d x near near' far e = simp (top-is, e)
