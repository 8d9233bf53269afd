-- A list of calls on a table beside the same list on its ledger. Assumes nothing: these are statements.
use Rattle.std.specs.Prelude.{ℕ, ◌≡◌, List, [], ◌∷◌}
use Rattle.std.proofs.Math.Option.{Option, none, some}
use Rattle.scope.specs.Calls.{Call, Start, Check, Find, Post, Amend, Drop, Rank, Total, Worth, Fire, Tidy, answer_of, table_of, after}
use Rattle.scope.specs.declared.answer.Answer.{Answer}
use Rattle.spelling.specs.Whole.{Whole}
use Rattle.ledger.specs.Sequence.{Told, plain, ledger_answer, ledger_after, ledger_answers, ledger_after_all}
use Rattle.demands.specs.Ledgers.{ledger_of, no_visits, no_slot, standing}

-- what a ledger can know of a call's answer on a table: all of a refusal, and of an accepted one all but slots and visits; of
-- a rank also the record that stands in the answered slot, and nothing of worth, fire and tidy
unfoldable pub apart : Call → List ℕ → Answer → Option Told
apart Start t a = some (plain a)
apart Check t a = some (plain a)
apart (Find key) t a = some (plain (no_visits a))
apart (Post key pieces state) t a = some (plain (no_slot a))
apart (Amend key pieces state) t a = some (plain (no_slot a))
apart (Drop key) t a = some (plain (no_slot a))
apart (Rank r) t a = some (record { answer = no_slot a; shows = standing t a.value })
apart (Total K) t a = some (plain a)
apart Worth t a = none
apart (Fire rule holder side) t a = none
apart (Tidy budget) t a = none

-- of each of a list of calls, on the table that it meets
unfoldable pub all_apart : List Call → List ℕ → List (Option Told)
all_apart [] t = []
all_apart (x ∷ xs) t = apart x t (answer_of x t) ∷ all_apart xs (table_of x t)

-- one call: the answer is the ledger's, the table is sound, and its ledger is the one that the call leaves
pub record SameCall (x : Call) (t : List ℕ) (c : ℕ) : Type 0 where
  pub answer : apart x t (answer_of x t) ≡ ledger_answer x (ledger_of t c)
  pub whole : Whole (table_of x t) c
  pub ledger : ledger_of (table_of x t) c ≡ ledger_after x (ledger_of t c)

-- the same for a list of calls
pub record SameCalls (xs : List Call) (t : List ℕ) (c : ℕ) : Type 0 where
  pub each : all_apart xs t ≡ ledger_answers xs (ledger_of t c)
  pub whole : Whole (after xs t) c
  pub ledger : ledger_of (after xs t) c ≡ ledger_after_all xs (ledger_of t c)
