-- What is known of the nodes of a firing on the way to it, and of the firing itself. Assumes nothing: these are statements.
use Rattle.std.specs.Prelude.{ℕ, ◌≤◌, ◌≡◌, List}
use Rattle.scope.specs.Numbers.{most_height}
use Rattle.scope.specs.Table.{word, link_at}
use Rattle.scope.specs.Rules.{highest_at}
use Rattle.scope.specs.declared.rule.Rule.{Rule}
use Rattle.scope.specs.declared.side.Link.{Link}
use Rattle.scope.specs.declared.outcome.Nodes.{Nodes}
use Rattle.spelling.specs.Ready.{Sized}
use Rattle.std.specs.Prelude.{Result, Ok, Err}
use Rattle.scope.specs.declared.answer.Refusal.{Refusal}

-- a link of a table of c slots that holds a slot of it, or nothing
pub record LinkReached (t : List ℕ) (c : ℕ) (link : Link) : Type 0 where
  pub sized : Sized t c
  pub holder : link.holder ≤ c
  pub holds : word t (link_at link) ≤ c

-- v is a slot of the table, and so is the link's holder
pub record Nearby (t : List ℕ) (c : ℕ) (link : Link) (v : ℕ) : Type 0 where
  pub sized : Sized t c
  pub holder : link.holder ≤ c
  pub first : 1 ≤ v
  pub most : v ≤ c

-- the nodes of a firing are slots of a table of c
pub record NodesInside (c : ℕ) (n : Nodes) : Type 0 where
  pub holder : n.link.holder ≤ c
  pub v_first : 1 ≤ n.v
  pub v_most : n.v ≤ c
  pub u_first : 1 ≤ n.u
  pub u_most : n.u ≤ c
  pub w_first : 1 ≤ n.w
  pub w_most : n.w ≤ c

-- and the heights that the action works out are heights
pub record NodesWithin (c : ℕ) (r : Rule) (n : Nodes) : Type 0 where
  pub nodes : NodesInside c n
  pub height : highest_at r n ≤ most_height

abbrev pub MayFire : ℕ → Result (Rule × Nodes) Refusal → Type 0
MayFire c (Err why) = Unit {0}
MayFire c (Ok (r, n)) = NodesWithin c r n

-- a firing as defined, that may be carried out in a table of c slots
pub record Aimed (c : ℕ) (plan f : Result (Rule × Nodes) Refusal) : Type 0 where
  pub is : f ≡ plan
  pub may : MayFire c f
