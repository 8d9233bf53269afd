-- The slots at which no test changes when a rule fires at its nodes. Assumes nothing: these are statements.
use Rattle.std.specs.Prelude.{ℕ, ◌≤◌, ◌≡◌, List}
use Rattle.scope.specs.Table.{slot_at, son}
use Rattle.scope.specs.declared.side.Side.{Side}
use Rattle.scope.specs.declared.outcome.Nodes.{Nodes}
use Rattle.tidy_holders.specs.Codes.{above_of}

-- slot x is none of the nodes
pub record NoNode (n : Nodes) (x : ℕ) : Type 0 where
  pub v : x ≡ n.v → ⊥
  pub u : x ≡ n.u → ⊥
  pub w : x ≡ n.w → ⊥

-- nor does it hold their link, nor the slot that does
pub record Elsewhere (t : List ℕ) (n : Nodes) (x : ℕ) : Type 0 where
  pub node : NoNode n x
  pub above : x ≡ n.link.holder → ⊥
  pub upper : (s : Side) → 1 ≤ n.link.holder → son (slot_at t x) s ≡ n.link.holder → ⊥

-- the same by what is noted
pub record Unnoted (h : List ℕ) (n : Nodes) (x : ℕ) : Type 0 where
  pub node : NoNode n x
  pub above : x ≡ above_of h n.v → ⊥
  pub upper : x ≡ above_of h (above_of h n.v) → ⊥
