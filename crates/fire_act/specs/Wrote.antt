-- What is asked of a firing's nodes, and what a written word leaves. Assumes nothing: these are statements.
use Rattle.std.specs.Prelude.{ℕ, ◌≤◌, ◌≡◌, List, set}
use Rattle.scope.specs.Numbers.{most_height}
use Rattle.scope.specs.Rules.{seen, highest}
use Rattle.scope.specs.declared.side.Side.{Side}
use Rattle.scope.specs.declared.rule.Kind.{Kind}
use Rattle.scope.specs.declared.outcome.Nodes.{Nodes}
use Rattle.spelling.specs.Ready.{Sized}
use Rattle.fire_aim.specs.Aimed.{NodesInside}

-- slot k of a table of c slots
pub record SlotThere (t : List ℕ) (c k : ℕ) : Type 0 where
  pub sized : Sized t c
  pub first : 1 ≤ k
  pub most : k ≤ c

-- the nodes of a firing are slots of the table
pub record InNodes (t : List ℕ) (c : ℕ) (n : Nodes) : Type 0 where
  pub sized : Sized t c
  pub nodes : NodesInside c n

-- the table u is as said, and has c slots
pub record Kept (c : ℕ) (said u : List ℕ) : Type 0 where
  pub is : u ≡ said
  pub sized : Sized u c

-- u is t with x at i
abbrev pub Wrote : List ℕ → ℕ → ℕ → ℕ → List ℕ → Type 0
Wrote t c i x u = Kept c (set t i x) u

-- the heights that an action of this kind works out are heights
abbrev pub HeightsLow : Kind → Side → Nodes → Type 0
HeightsLow k s n = highest k (seen s n.sv) (seen s n.su) (seen s n.sw) ≤ most_height
