-- What a firing of tidy asks, and what it leaves. Assumes nothing: these are statements.
use Rattle.std.specs.Prelude.{ℕ, ◌≡◌, List}
use Rattle.scope.specs.Table.{written}
use Rattle.scope.specs.Rules.{action, action_at}
use Rattle.scope.specs.Tidy.{nodes_at, link_to}
use Rattle.scope.specs.declared.rule.Rule.{Rule}
use Rattle.scope.specs.declared.outcome.Nodes.{Nodes}
use Rattle.spelling.specs.Ready.{Sized}
use Rattle.bridge.specs.Due.{Due}
use Rattle.fire_aim.specs.Aimed.{NodesWithin}
use Rattle.fire_act.specs.Wrote.{Kept}
use Rattle.tidy_holders.specs.Holds.{Moving, noted}
use Rattle.tidy_holders.specs.declared.entry.Holders.{Holders}
use Rattle.tidy.specs.Coming.{Running}
use Rattle.tidy.specs.declared.notes.Notes.{Notes}

-- the action of a rule may be written at its nodes, and its links noted
pub record MayAct (t : List ℕ) (c : ℕ) (r : Rule) (x : Nodes) : Type 0 where
  pub sized : Sized t c
  pub within : NodesWithin c r x
  pub moving : Moving x r.side

pub record Acted (t : List ℕ) (h : Holders) (c : ℕ) (r : Rule) (x : Nodes) (t' : List ℕ) (h' : Holders) : Type 0 where
  pub words : Kept c (written t (action_at r x)) t'
  pub links : h'.links ≡ noted (action r.kind r.side x) h.links

-- rule r is due at a slot, and x are its nodes there
pub record ToFire (t : List ℕ) (c : ℕ) (n : Notes) (r : Rule) (x : Nodes) : Type 0 where
  pub running : Running t c n
  pub slot : ℕ
  pub number : ℕ
  pub due : Due t c slot number
  pub rule : r ≡ due.rule
  pub nodes : x ≡ nodes_at t due.rule (link_to t c slot) slot

-- it was fired, and all is kept
pub record AfterFiring (t : List ℕ) (c : ℕ) (r : Rule) (x : Nodes) (t' : List ℕ) (n' : Notes) : Type 0 where
  pub is : t' ≡ written t (action_at r x)
  pub running : Running t' c n'
