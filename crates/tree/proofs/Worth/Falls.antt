-- Any measure that falls by what a firing takes and brings falls at every firing, anywhere. Assumes nothing.
use Prim.Native.Nat.{ℕ, suc, ◌+◌}
use mathlib.Core.Path.{◌≡◌}
use mathlib.Core.Option.{some}
use mathlib.Core.List.{List}
use native.Mathlib.Omega.{arith}
use Rattle.scope.specs.Tree.{Tree, size}
use Rattle.scope.specs.Rules.{guard}
use Rattle.scope.specs.declared.side.Side.{Side}
use Rattle.scope.specs.declared.rule.Kind.{Kind}
use Rattle.scope.specs.declared.rule.Kind.TheVariants.{Propagate, Lean, Even, Double}
use Rattle.scope.specs.declared.rule.Rule.{Rule}
use Rattle.tree.specs.Weight.{Scale, weigh}
use Rattle.tree.specs.Measure.{Measure}
use Rattle.tree.specs.Rewrite.{fire_at}
use Rattle.tree.specs.Step.{Step, propagates, leans, evens, doubles}
use Rattle.tree.proofs.Firing.Guards.{lean-says, even-says, double-says}
use Rattle.tree.proofs.Firing.Steps.{anywhere}
use Rattle.tree.proofs.Firing.Sides.{size-mk}
use Rattle.tree.proofs.Firing.Keeps.{step-records, size-kept}
use Rattle.tree.proofs.Worth.Weigh.{propagated-weigh, rotated-weigh, doubled-weigh, inside-weigh}

-- a subtree's weights by every scale
abbrev pub weights : Tree → ℕ → ℕ → Scale → ℕ
weights T o above S = weigh S T o above

module _ (M : Measure) where
  pub record Falls (T T' : Tree) : Type 0 where
    pub same : size T' ≡ size T
    pub below : (o above : ℕ) → M.Below (weights T' o above) (weights T o above)

  step-below : (s : Side) (k : Kind) (T T' : Tree) → Step guard s k T T' → (o above : ℕ)
      → M.Below (weights T' o above) (weights T o above)
  step-below s k T T' (propagates dv du v u m n c g) o above =
      M.shift _ _ _ _ (λ S fair. propagated-weigh S fair s dv du v u m n c o above)
      (M.local Propagate o above (size c) v u u g)
  step-below s k T T' (leans dv du v u m n c g) o above =
      let h = lean-says v u u g in
      M.shift _ _ _ _ (λ S fair. rotated-weigh S fair s dv du v u m n c o above (omega arith))
      (M.local Lean o above (size c) v u u g)
  step-below s k T T' (evens dv du v u m n c g) o above =
      let h = even-says v u u g in
      M.shift _ _ _ _ (λ S fair. rotated-weigh S fair s dv du v u m n c o above (omega arith))
      (M.local Even o above (size c) v u u g)
  step-below s k T T' (doubles dv du dw v u w m e f c g) o above =
      let h = double-says v u w g in
      M.shift _ _ _ _ (λ S fair. doubled-weigh S fair s dv du dw v u w m e f c o above (omega arith) h.1)
      (M.local Double o above (size c) v u w g)

  pub falls : (way : List Side) (r : Rule) (T T' : Tree) → fire_at way r T ≡ some T' → Falls T T'
  falls =
      anywhere guard Falls
      (λ s k T T' x. record { same = size-kept T T' (step-records guard s k T T' x); below = step-below s k T T' x })
      (λ s d x near near' far h. record {
        same = simp (size-mk, h.same);
        below = λ o above.
            M.shift _ _ _ _ (λ S fair. inside-weigh S fair s d x near near' far o above h.same)
            (h.below (o + suc (size far)) x.near);
      })
