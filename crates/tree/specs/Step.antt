-- A firing as a relation between two trees, by the rule's kind: what a proof about firings goes through.
use Rattle.std.specs.Prelude.{◌≡◌, true}
use Rattle.scope.specs.Tree.{Batch, Tree}
use Rattle.scope.specs.declared.rule.Pair.{Pair}
use Rattle.scope.specs.declared.side.Side.{Side}
use Rattle.scope.specs.declared.rule.Kind.{Kind}
use Rattle.scope.specs.declared.rule.Kind.TheVariants.{Propagate, Lean, Even, Double}
use Rattle.tree.specs.Rewrite.{mk, propagated_tree, rotated_tree, doubled, Test}

-- v over its near son u, with the far sons c and n and the near one m; in the last kind n is w over e and f
pub data Step (test : Test) (s : Side) : Kind → Tree → Tree → Type 0 where
  propagates : (dv du : Batch) (v u : Pair) (m n c : Tree) → test Propagate v u u ≡ true
      → Step test s Propagate (mk s dv v (mk s du u m n) c) (propagated_tree s dv du v u m n c)
  leans : (dv du : Batch) (v u : Pair) (m n c : Tree) → test Lean v u u ≡ true
      → Step test s Lean (mk s dv v (mk s du u m n) c) (rotated_tree s dv du v u m n c)
  evens : (dv du : Batch) (v u : Pair) (m n c : Tree) → test Even v u u ≡ true
      → Step test s Even (mk s dv v (mk s du u m n) c) (rotated_tree s dv du v u m n c)
  doubles : (dv du dw : Batch) (v u w : Pair) (m e f c : Tree) → test Double v u w ≡ true
      → Step test s Double (mk s dv v (mk s du u m (mk s dw w e f)) c) (doubled s dv du v u dw w m e f c)
