-- What the plan of a drop does at the link where the record hangs. Assumes nothing: these are statements.
use Rattle.std.specs.Prelude.{ℕ, ◌+◌, ◌≡◌, List, Result, Ok}
use Rattle.scope.specs.Table.{slot_at}
use Rattle.scope.specs.Table.{zero_slot}
use Rattle.scope.specs.Tree.{Tree, times, same}
use Rattle.scope.specs.Drop.{if_may, drop_at, lifted, replaced}
use Rattle.scope.specs.declared.side.Link.{Link}
use Rattle.scope.specs.declared.answer.Denial.{Denial}
use Rattle.scope.specs.declared.outcome.Dropping.{Dropping}
use Rattle.scope.specs.declared.outcome.Dropping.TheVariants.{Lift, Replace}
use Rattle.bridge.specs.Below.{Cut}
use Rattle.tree.specs.Without.{without_top}

-- from t to t₁ the record at the top of S is gone, and slot k is free
pub record Freed (t t₁ : List ℕ) (c : ℕ) (l : Link) (S : Tree) (k : ℕ) : Type 0 where
  pub cut : Cut t t₁ c l S (without_top S)
  pub slots : (j : ℕ) → times j S ≡ same j k + times j (without_top S)
  pub blank : slot_at t₁ k ≡ zero_slot

pub data Plans (t : List ℕ) (c : ℕ) (l : Link) (S : Tree) : Result Dropping Denial → Type 0 where
  lifts : {slot son : ℕ} → Freed t (lifted t slot l son) c l S slot → Plans t c l S (Ok (Lift slot l son))
  moves : {slot least : ℕ} {link : Link} → Freed t (replaced t slot least link) c l S least
      → Plans t c l S (Ok (Replace slot least link))

-- the plan for a slot found at link l after so many visits
pub record DropDone (t : List ℕ) (c slot : ℕ) (l : Link) (seen : ℕ) (S : Tree) : Type 0 where
  pub plan : Result Dropping Denial
  pub is : drop_at t c slot l seen ≡ if_may t plan
  pub plans : Plans t c l S plan
