-- Any call on a ledger, and any list of calls. Assumes nothing: these are definitions.
use Rattle.std.proofs.Math.Option.{Option, none, some}
use Rattle.std.specs.Prelude.{List, [], ◌∷◌}
use Rattle.scope.specs.Answers.{accepted}
use Rattle.scope.specs.Calls.{Call, Start, Check, Find, Post, Amend, Drop, Rank, Total, Worth, Fire, Tidy}
use Rattle.scope.specs.declared.answer.Answer.{Answer}
use Rattle.ledger.specs.Entries.{Entry, nth}
use Rattle.ledger.specs.Ledger.{Ledger, find_in, rank_in, total_in, post_in, amend_in, drop_in}

-- what a ledger tells: the five numbers, with 0 for slots and visits; and the record that a rank asks for
pub record Told : Type 0 where
  pub answer : Answer
  pub shows : Option Entry

abbrev pub plain : Answer → Told
plain a = record { answer = a; shows = none }

-- what it tells of a call; worth, fire and tidy ask for more than the records, and of them it tells nothing
unfoldable pub ledger_answer : Call → Ledger → Option Told
ledger_answer Start L = some (plain (accepted 0 0 0 0))
ledger_answer Check L = some (plain (accepted L.change 0 0 0))
ledger_answer (Find key) L = some (plain (find_in key L))
ledger_answer (Post key pieces state) L = some (plain (post_in key pieces state L).answer)
ledger_answer (Amend key pieces state) L = some (plain (amend_in key pieces state L).answer)
ledger_answer (Drop key) L = some (plain (drop_in key L).answer)
ledger_answer (Rank r) L = some (record { answer = rank_in r L; shows = nth r L.entries })
ledger_answer (Total K) L = some (plain (total_in K L))
ledger_answer Worth L = none
ledger_answer (Fire rule holder side) L = none
ledger_answer (Tidy budget) L = none

-- the ledger after it; start empties it, and only post, amend and drop change its records
unfoldable pub ledger_after : Call → Ledger → Ledger
ledger_after Start L = record { entries = []; change = 0; capacity = L.capacity }
ledger_after Check L = L
ledger_after (Find key) L = L
ledger_after (Post key pieces state) L = (post_in key pieces state L).ledger
ledger_after (Amend key pieces state) L = (amend_in key pieces state L).ledger
ledger_after (Drop key) L = (drop_in key L).ledger
ledger_after (Rank r) L = L
ledger_after (Total K) L = L
ledger_after Worth L = L
ledger_after (Fire rule holder side) L = L
ledger_after (Tidy budget) L = L

-- one call after the other
unfoldable pub ledger_answers : List Call → Ledger → List (Option Told)
ledger_answers [] L = []
ledger_answers (x ∷ xs) L = ledger_answer x L ∷ ledger_answers xs (ledger_after x L)

unfoldable pub ledger_after_all : List Call → Ledger → Ledger
ledger_after_all [] L = L
ledger_after_all (x ∷ xs) L = ledger_after_all xs (ledger_after x L)
