-- start and find (document 01, "Calls and what they answer"; of a miss document 02, order 1).
use Rattle.std.specs.Prelude.{ℕ, true, not, List, length, replicate, eqb, Result, Ok, Err}
use Rattle.scope.specs.Table.{word, change_word, slot_at}
use Rattle.scope.specs.Fit.{header_ok}
use Rattle.scope.specs.Answers.{Done, refused, accepted, refusal, absence, gate, answering}
use Rattle.scope.specs.Walk.{walk_of}
use Rattle.scope.specs.declared.answer.Answer.{Answer}
use Rattle.scope.specs.declared.answer.Refusal.{Refusal}
use Rattle.scope.specs.declared.answer.Refusal.TheVariants.{Damaged}
use Rattle.scope.specs.declared.outcome.Walk.{Walk}
use Rattle.scope.specs.declared.outcome.Walk.TheVariants.{Hit, Miss, Damage}

-- start looks at nothing but the length, and zeroes every word
abbrev pub started : List ℕ → Result ℕ Refusal → Done
started t (Err why) = refused t why
started t (Ok c) = record { answer = accepted 0 0 0 0; words = replicate (length t) 0 }

unfoldable pub start_of : List ℕ → Done
start_of t = started t (gate t true (λ c. true))

abbrev pub start_answer : List ℕ → Answer
start_answer t = (start_of t).answer

abbrev pub start_table : List ℕ → List ℕ
start_table t = (start_of t).words

-- a hit answers the record's pieces, the slots visited and the record's state; a miss the last keys passed
unfoldable pub found_in : List ℕ → Walk → Answer
found_in t (Hit slot link seen) =
    accepted (word t change_word) (slot_at t slot).pieces seen (slot_at t slot).state
found_in t (Miss passed link seen) = absence passed
found_in t Damage = refusal Damaged

unfoldable pub find_answer : List ℕ → ℕ → Answer
find_answer t key =
    answering (gate t (not (eqb key 0)) (λ c. header_ok c t)) (λ c. found_in t (walk_of t c key))
