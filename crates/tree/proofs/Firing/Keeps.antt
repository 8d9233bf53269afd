-- A rewriting keeps the records in order, hence slots and keys, and the zeros beside empty links. Assumes nothing.
use Prim.Native.Nat.{ℕ, ◌+◌}
use mathlib.Core.Path.{◌≡◌, refl, sym, ◌∙◌, ap}
use mathlib.Core.Option.{some}
use mathlib.Core.List.{List, [], ◌∷◌, ◌++◌}
use native.Mathlib.Omega.{arith}
use lib.ListN.{length, length-append}
use Rattle.scope.specs.Tree.{Batch, Tree, leaf, node, size, in_order, times, same}
use Rattle.scope.specs.declared.side.Side.{Side}
use Rattle.scope.specs.declared.rule.Kind.{Kind}
use Rattle.scope.specs.declared.rule.Rule.{Rule}
use Rattle.tree.specs.Rewrite.{Test, rewrite_at}
use Rattle.tree.specs.Step.{Step, propagates, leans, evens, doubles}
use Rattle.tree.specs.Shape.{Beside, Relaxed}
use Rattle.tree.proofs.Firing.Steps.{anywhere}
use Rattle.tree.proofs.Firing.Sides.{between-turns, order-mk, beside-mk}
use Rattle.tree.proofs.Firing.Moves.{moves}

pub record Keeps (T T' : Tree) : Type 0 where
  pub records : in_order T' ≡ in_order T
  pub relaxed : Relaxed T → Relaxed T'

module _ (test : Test) where
  -- the records stay in order
  pub step-records : (s : Side) (k : Kind) (T T' : Tree) → Step test s k T T' → in_order T' ≡ in_order T
  step-records s k T T' (propagates dv du v u m n c g) = simp order-mk
  step-records s k T T' (leans dv du v u m n c g) = simp (order-mk, between-turns)
  step-records s k T T' (evens dv du v u m n c g) = simp (order-mk, between-turns)
  step-records s k T T' (doubles dv du dw v u w m e f c g) = simp (order-mk, between-turns)

  -- a step leaves a node at the top
  step-beside : (s : Side) (k : Kind) (T T' : Tree) → Step test s k T T' → (a : ℕ) → Beside a T'
  step-beside s k T T' (propagates dv du v u m n c g) a = beside-mk s _ _ _ _ a
  step-beside s k T T' (leans dv du v u m n c g) a = beside-mk s _ _ _ _ a
  step-beside s k T T' (evens dv du v u m n c g) a = beside-mk s _ _ _ _ a
  step-beside s k T T' (doubles dv du dw v u w m e f c g) a = beside-mk s _ _ _ _ a

  -- at any place
  pub keeps : (way : List Side) (r : Rule) (T T' : Tree) → rewrite_at test way r T ≡ some T' → Keeps T T'
  keeps way r T T' e =
      record {
        records = anywhere test (λ T T'. in_order T' ≡ in_order T) step-records
            (λ s d x near near' far h. simp (order-mk, h)) way r T T' e;
        relaxed = (moves test Beside (λ k v u w x _ _ s d near far. beside-mk s d x near far _)
            (λ s k T T' x _ a _. step-beside s k T T' x a) (λ s d x near near' far a _. beside-mk s d x near' far a)
            way r T T' e).each;
      }

-- what the records in order decide: how often a slot stands in the tree, and how many nodes there are
abbrev times_in : ℕ → List Batch → ℕ
times_in k [] = 0
times_in k (d ∷ ds) = same k d.slot + times_in k ds

times-append : (k : ℕ) (xs ys : List Batch) → times_in k (xs ++ ys) ≡ times_in k xs + times_in k ys
times-append k [] ys = omega arith
times-append k (d ∷ xs) ys = omega (arith, times-append k xs ys)

times-order : (k : ℕ) (T : Tree) → times k T ≡ times_in k (in_order T)
unfolding times in_order
times-order k leaf = refl
times-order k (node d a b l r) =
    omega (arith, times-append k (in_order l) (d ∷ in_order r), times-order k l, times-order k r)

size-order : (T : Tree) → size T ≡ length (in_order T)
unfolding size in_order
size-order leaf = refl
size-order (node d a b l r) = simp length-append (omega (arith, size-order l, size-order r))

pub times-kept : (T T' : Tree) → in_order T' ≡ in_order T → (k : ℕ) → times k T' ≡ times k T
times-kept T T' e k = times-order k T' ∙ ap (times_in k) e ∙ sym (times-order k T)

pub size-kept : (T T' : Tree) → in_order T' ≡ in_order T → size T' ≡ size T
size-kept T T' e = size-order T' ∙ ap length e ∙ sym (size-order T)
