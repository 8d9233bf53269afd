-- What each call answers and leaves on a ledger. Where a table answers a slot or how many it visited, the ledger says 0.
use Rattle.std.specs.Prelude.{ℕ, ◌+◌, cond, List, length, leb, ltb, eqb}
use Rattle.std.proofs.Math.Option.{Option, none, some}
use Rattle.scope.specs.Numbers.{last_change}
use Rattle.scope.specs.Answers.{accepted, refusal, absence}
use Rattle.scope.specs.Fit.{record_ok}
use Rattle.scope.specs.declared.answer.Answer.{Answer}
use Rattle.scope.specs.declared.outcome.Passed.{Passed}
use Rattle.scope.specs.declared.answer.Refusal.{Refusal}
use Rattle.scope.specs.declared.answer.Refusal.TheVariants.{OutOfRange, KeyPresent, KeyAbsent, NoFreeSlot, LastChange}
use Rattle.ledger.specs.Entries.{Entry, lookup, below, above, insert, replace, remove, sum_to}

-- the records in the order of their stamps, the change number, and how many records there is room for
pub record Ledger : Type 0 where
  pub entries : List Entry
  pub change : ℕ
  pub capacity : ℕ

-- an answer and the ledger after the call
pub record Entered : Type 0 where
  pub answer : Answer
  pub ledger : Ledger

abbrev pub entry : ℕ → ℕ → ℕ → Entry
entry key pieces state = record { key = key; pieces = pieces; state = state }

-- the neighbours of a stamp that is absent, in the form in which a walk would have passed them
abbrev pub neighbours : ℕ → List Entry → Passed
neighbours key es = record { below = below key es; above = above key es }

-- calls that only answer
abbrev pub found_entry : ℕ → Passed → Option Entry → Answer
found_entry change near none = absence near
found_entry change near (some e) = accepted change e.pieces 0 e.state

abbrev pub find_in : ℕ → Ledger → Answer
find_in key L =
    cond (eqb key 0) (refusal OutOfRange)
    (found_entry L.change (neighbours key L.entries) (lookup key L.entries))

abbrev pub rank_in : ℕ → Ledger → Answer
rank_in r L =
    cond (eqb r 0) (refusal OutOfRange) (cond (leb r (length L.entries)) (accepted L.change 0 0 0) (refusal KeyAbsent))

abbrev pub total_in : ℕ → Ledger → Answer
total_in K L = accepted L.change (sum_to K L.entries) 0 0

-- calls that change it: refused; lacking the stamp that they need; or other entries and one change more
abbrev pub kept : Ledger → Refusal → Entered
kept L why = record { answer = refusal why; ledger = L }

abbrev pub lacking : ℕ → Ledger → Entered
lacking key L = record { answer = absence (neighbours key L.entries); ledger = L }

abbrev pub entered : Ledger → List Entry → Entered
entered L es =
    cond (ltb L.change last_change)
    (record {
      answer = accepted (L.change + 1) 0 0 0;
      ledger = record { entries = es; change = L.change + 1; capacity = L.capacity };
    })
    (kept L LastChange)

abbrev pub on_entry : Option Entry → Entered → Entered → Entered
on_entry none absent present = absent
on_entry (some e) absent present = present

abbrev pub post_in : ℕ → ℕ → ℕ → Ledger → Entered
post_in key pieces state L =
    cond (record_ok key pieces state)
    (on_entry (lookup key L.entries)
    (cond (ltb (length L.entries) L.capacity) (entered L (insert (entry key pieces state) L.entries)) (kept L NoFreeSlot))
    (kept L KeyPresent))
    (kept L OutOfRange)

abbrev pub amend_in : ℕ → ℕ → ℕ → Ledger → Entered
amend_in key pieces state L =
    cond (record_ok key pieces state)
    (on_entry (lookup key L.entries) (lacking key L) (entered L (replace (entry key pieces state) L.entries)))
    (kept L OutOfRange)

abbrev pub drop_in : ℕ → Ledger → Entered
drop_in key L =
    cond (eqb key 0) (kept L OutOfRange)
    (on_entry (lookup key L.entries) (lacking key L) (entered L (remove key L.entries)))
