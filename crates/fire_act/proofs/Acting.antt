-- The action of a rule, by its kind. Assumes nothing.
use Prim.Native.Nat.{ℕ}
use mathlib.Core.Path.{◌≡◌}
use mathlib.Core.List.{List}
use Rattle.scope.specs.Table.{written}
use Rattle.scope.specs.Edits.{writes}
use Rattle.scope.specs.Rules.{action, action_at, highest_at}
use Rattle.scope.specs.declared.rule.Kind.{Kind}
use Rattle.scope.specs.declared.rule.Rule.{Rule}
use Rattle.scope.specs.declared.outcome.Nodes.{Nodes}
use Rattle.spelling.specs.Ready.{Sized}
use Rattle.fire_aim.specs.Aimed.{NodesWithin}
use Rattle.fire_act.specs.Wrote.{InNodes, Kept, HeightsLow}

module _ {t : List ℕ} {c : ℕ} {r : Rule} {n : Nodes} (s : Sized t c) (w : NodesWithin c r n) (k : Kind) (e : r.kind ≡ k) where
  -- what an action asks
  pub nodes-asked : InNodes t c n × HeightsLow k r.side n
  unfolding highest_at
  nodes-asked = (record { sized = s; nodes = w.nodes }, rw e at w.height)

  -- what it does
  pub acted : {u : List ℕ} → Kept c (written t (writes (action k r.side n))) u → Kept c (written t (action_at r n)) u
  unfolding action_at
  acted a = record { is = rw e a.is; sized = a.sized }
