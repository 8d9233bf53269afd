-- The plan of a post: its writes lie in the table. Assumes nothing: these are statements.
use Rattle.std.specs.Prelude.{ℕ, ◌≤◌, ◌<◌, ◌≡◌, List}
use Rattle.scope.specs.Numbers.{last_change}
use Rattle.scope.specs.Table.{word, count_word, change_word}
use Rattle.scope.specs.declared.side.Link.{Link}
use Rattle.scope.specs.declared.outcome.Posting.{Posting}
use Rattle.gate.specs.AtSlot.{AtSlot}
use Rattle.std.specs.Prelude.{Result, Ok, Err}
use Rattle.scope.specs.declared.answer.Refusal.{Refusal}

-- a new record can be hung: its slot and its link are there, and neither number is at its limit
pub record Hangable (t : List ℕ) (k : ℕ) (link : Link) : Type 0 where
  pub placed : AtSlot t k
  pub held : link.holder ≤ placed.slots
  pub count : word t count_word < placed.slots
  pub change : word t change_word < last_change

abbrev pub CanPost : List ℕ → Result Posting Refusal → Type 0
CanPost t (Err why) = Unit {0}
CanPost t (Ok x) = Hangable t x.slot x.link

-- the plan is the defined one and can be carried out
pub record PostPlanned (t : List ℕ) (plan r : Result Posting Refusal) : Type 0 where
  pub is : r ≡ plan
  pub can : CanPost t r
