-- The paper's Lemma 2: where no carry is negative, no firing makes one negative. Assumes nothing.
use Prim.Native.Nat.{◌≤◌}
use mathlib.Core.Path.{◌≡◌}
use mathlib.Core.Option.{some}
use mathlib.Core.List.{List}
use native.Mathlib.Omega.{arith}
use Rattle.scope.specs.Tree.{Tree}
use Rattle.scope.specs.Rules.{guard}
use Rattle.scope.specs.declared.side.Side.{Side}
use Rattle.scope.specs.declared.rule.Kind.{Kind}
use Rattle.scope.specs.declared.rule.Rule.{Rule}
use Rattle.tree.specs.Weight.{top_height}
use Rattle.tree.specs.Rewrite.{fire_at}
use Rattle.tree.specs.Step.{Step, propagates, leans, evens, doubles}
use Rattle.tree.specs.Shape.{Covers, Covered}
use Rattle.tree.proofs.Firing.Guards.{lean-says, even-says, double-says}
use Rattle.tree.proofs.Firing.Sides.{top-mk, each_in}
use Rattle.tree.proofs.Firing.Moves.{moves}

-- no step raises the top's local height then
step-top : (s : Side) (k : Kind) (T T' : Tree) → Step guard s k T T' → Covered T → top_height T' ≤ top_height T
step-top s k T T' (propagates dv du v u m n c g) h =
    let x = each_in s _ _ _ _ (λ a b T. Covers a T) h in
    simp top-mk (omega (arith, x.near, top-mk s du u m n))
step-top s k T T' (leans dv du v u m n c g) h = simp top-mk (omega (arith, lean-says v u u g))
step-top s k T T' (evens dv du v u m n c g) h = simp top-mk (omega (arith, even-says v u u g))
step-top s k T T' (doubles dv du dw v u w m e f c g) h = simp top-mk (omega (arith, double-says v u w g))

-- LEMMA 2
pub covered-kept : (way : List Side) (r : Rule) (T T' : Tree) → fire_at way r T ≡ some T' → Covered T → Covered T'
covered-kept way r T T' e =
    (moves guard Covers (λ k v u w x _ _ s d near far. omega (arith, top-mk s d x near far))
    (λ s k T T' x h a q. omega (arith, step-top s k T T' x h))
    (λ s d x near near' far a q. omega (arith, top-mk s d x near far, top-mk s d x near' far))
    way r T T' e).each
