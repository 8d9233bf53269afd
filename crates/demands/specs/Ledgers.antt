-- The ledger of a table: its records in the order of their keys, its change number, and its slots. Assumes nothing.
use Rattle.std.specs.Prelude.{ℕ, ◌≡◌, cond, List, eqb}
use Rattle.std.proofs.Math.Option.{Option, none, some}
use Rattle.scope.specs.Table.{word, change_word}
use Rattle.scope.specs.Sound.{batch_at, tree_in}
use Rattle.scope.specs.Answers.{Done}
use Rattle.scope.specs.declared.answer.Answer.{Answer}
use Rattle.spelling.specs.Whole.{Whole}
use Rattle.ledger.specs.Entries.{Entry}
use Rattle.ledger.specs.OfTree.{entry_of, entries_of}
use Rattle.ledger.specs.Ledger.{Ledger, Entered}

abbrev pub ledger_of : List ℕ → ℕ → Ledger
ledger_of t c = record { entries = entries_of (tree_in t c); change = word t change_word; capacity = c }

-- an accepted answer with the visits, or the slot, left out; a refusal is compared whole
abbrev pub no_visits : Answer → Answer
no_visits a = cond (eqb a.code 0) (record { code = a.code; change = a.change; value = a.value; more = 0; kind = a.kind }) a

abbrev pub no_slot : Answer → Answer
no_slot a = cond (eqb a.code 0) (record { code = a.code; change = a.change; value = 0; more = a.more; kind = a.kind }) a

-- the record that stands in a slot; slot 0 is none
abbrev pub standing : List ℕ → ℕ → Option Entry
standing t k = cond (eqb k 0) none (some (entry_of (batch_at t k)))

-- a call on a table did what it does to the ledger: the answer, but for the slot of an accepted one; sound again; and the
-- ledger afterwards
pub record AsLedger (d : Done) (c : ℕ) (e : Entered) : Type 0 where
  pub answer : no_slot d.answer ≡ e.answer
  pub whole : Whole d.words c
  pub ledger : ledger_of d.words c ≡ e.ledger
