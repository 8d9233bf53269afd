-- The words that a rule writes are those of its edits. Assumes nothing.
use Prim.Native.Nat.{◌≤◌}
use mathlib.Core.Path.{◌≡◌, refl}
use Rattle.scope.specs.declared.rule.Rule.{Rule}
use Rattle.scope.specs.declared.outcome.Nodes.{Nodes}
use Rattle.scope.specs.Edits.{writes}
use Rattle.scope.specs.Rules.{action, action_at}

-- every node is a slot
pub record AreSlots (n : Nodes) : Type 0 where
  pub v : 1 ≤ n.v
  pub u : 1 ≤ n.u
  pub w : 1 ≤ n.w

-- the words of an action are those of its edits
pub action-edits : (r : Rule) (n : Nodes) → action_at r n ≡ writes (action r.kind r.side n)
unfolding action_at
action-edits r n = refl
