-- A statement on registers and the sons below them: only those worked out anew need a look. Assumes nothing.
use Prim.Native.Nat.{ℕ, ◌≤◌}
use mathlib.Core.Path.{◌≡◌}
use mathlib.Core.Bool.{true}
use mathlib.Core.Option.{some}
use mathlib.Core.List.{List}
use native.Mathlib.Omega.{arith}
use Rattle.scope.specs.Tree.{Batch, Tree}
use Rattle.scope.specs.Rules.{localh, highest, turned_v, doubled_u, doubled_v}
use Rattle.scope.specs.declared.rule.Pair.{Pair}
use Rattle.scope.specs.declared.side.Side.{Side}
use Rattle.scope.specs.declared.rule.Kind.{Kind}
use Rattle.scope.specs.declared.rule.Kind.TheVariants.{Propagate, Lean, Even, Double}
use Rattle.scope.specs.declared.rule.Rule.{Rule}
use Rattle.tree.specs.Rewrite.{mk, rotated_tree, Test, rewrite_at}
use Rattle.tree.specs.Step.{Step, propagates, leans, evens, doubles}
use Rattle.tree.specs.Shape.{Each}
use Rattle.tree.proofs.Firing.Steps.{anywhere}
use Rattle.tree.proofs.Firing.Sides.{each_in, each-out}

-- Q holds of a register that a rule writes anew: it says the local height below it, which is at most the highest due
module _ (test : Test) (Q : ℕ → Tree → Type 0)
    (exact : (k : Kind) (v u w x : Pair) → test k v u w ≡ true → localh x ≤ highest k v u w
    → (s : Side) (d : Batch) (near far : Tree) → Q (localh x) (mk s d x near far)) where
  abbrev P : ℕ → ℕ → Tree → Type 0
  P a b T = Q a T

  turns : (s : Side) (dv du : Batch) (v u : Pair) (m n c : Tree)
      → Q (localh (turned_v v u)) (mk s dv (turned_v v u) n c)
      → Each P (mk s dv v (mk s du u m n) c) → Each P (rotated_tree s dv du v u m n c)
  turns s dv du v u m n c q h =
      let x = each_in s _ _ _ _ P h in
      let y = each_in s _ _ _ _ P x.in_near in
      each-out s _ _ _ _ P (record {
        near = y.near;
        far = q;
        in_near = y.in_near;
        in_far = each-out s _ _ _ _ P (record { near = y.far; far = x.far; in_near = y.in_far; in_far = x.in_far });
      })

  -- a step keeps Q everywhere
  pub step-moves : (s : Side) (k : Kind) (T T' : Tree) → Step test s k T T' → Each P T → Each P T'
  step-moves s k T T' (propagates dv du v u m n c g) h =
      let x = each_in s _ _ _ _ P h in
      each-out s _ _ _ _ P (record {
        near = exact Propagate v u u u g (omega arith) s du m n;
        far = x.far;
        in_near = x.in_near;
        in_far = x.in_far;
      })
  step-moves s k T T' (leans dv du v u m n c g) h =
      turns s dv du v u m n c (exact Lean v u u (turned_v v u) g (omega arith) s dv n c) h
  step-moves s k T T' (evens dv du v u m n c g) h =
      turns s dv du v u m n c (exact Even v u u (turned_v v u) g (omega arith) s dv n c) h
  step-moves s k T T' (doubles dv du dw v u w m e f c g) h =
      let x = each_in s _ _ _ _ P h in
      let y = each_in s _ _ _ _ P x.in_near in
      let z = each_in s _ _ _ _ P y.in_far in
      each-out s _ _ _ _ P (record {
        near = exact Double v u w (doubled_u u w) g (omega arith) s du m e;
        far = exact Double v u w (doubled_v v w) g (omega arith) s dv f c;
        in_near = each-out s _ _ _ _ P (record { near = y.near; far = z.near; in_near = y.in_near; in_far = z.in_near });
        in_far = each-out s _ _ _ _ P (record { near = z.far; far = x.far; in_near = z.in_far; in_far = x.in_far });
      })

  -- and so does one in a son, where Q still holds of any register above that son
  pub record Moves (T T' : Tree) : Type 0 where
    pub each : Each P T → Each P T'
    pub top : Each P T → (a : ℕ) → Q a T → Q a T'

  inside-moves : (s : Side) (d : Batch) (x : Pair) (near near' far : Tree) → Moves near near'
      → Each P (mk s d x near far) → Each P (mk s d x near' far)
  inside-moves s d x near near' far k h =
      let y = each_in s _ _ _ _ P h in
      each-out s _ _ _ _ P (record {
        near = k.top y.in_near _ y.near;
        far = y.far;
        in_near = k.each y.in_near;
        in_far = y.in_far;
      })

  -- so it holds everywhere after a rewriting at any place, where steps and nodes keep it of the register above them
  pub moves : ((s : Side) (k : Kind) (T T' : Tree) → Step test s k T T' → Each P T → (a : ℕ) → Q a T → Q a T')
      → ((s : Side) (d : Batch) (x : Pair) (near near' far : Tree) (a : ℕ) → Q a (mk s d x near far)
      → Q a (mk s d x near' far))
      → (way : List Side) (r : Rule) (T T' : Tree) → rewrite_at test way r T ≡ some T' → Moves T T'
  moves top node =
      anywhere test Moves (λ s k T T' x. record { each = step-moves s k T T' x; top = top s k T T' x })
      (λ s d x near near' far m. record {
        each = inside-moves s d x near near' far m;
        top = λ _. node s d x near near' far;
      })
