-- What `op=list` prints (document 01, "The program").
use Rattle.std.specs.Prelude.{ℕ, ◌+◌, ◌*◌, ◌/◌, true, List, [], ◌∷◌, ◌++◌}
use Rattle.scope.specs.Table.{slot_words, word, root_word, count_word, change_word, slot_at}
use Rattle.scope.specs.Sound.{tree_in}
use Rattle.scope.specs.Answers.{accepted, refusal}
use Rattle.scope.specs.Sums.{sound_gate, slots_in_order}
use Rattle.scope.specs.declared.answer.Answer.{Answer}
use Rattle.text_print.specs.Line.{answer_line, record_line, answer_room, record_room}
use Rattle.std.specs.Prelude.{Result, Ok, Err}
use Rattle.scope.specs.declared.answer.Refusal.{Refusal}

-- the lines of the records in some slots
unfoldable pub record_lines : List ℕ → List ℕ → List ℕ
record_lines t [] = []
record_lines t (k ∷ ks) = record_line k (slot_at t k) ++ record_lines t ks

-- the lines of all records in the order of their keys
abbrev pub all_lines : List ℕ → ℕ → List ℕ
all_lines t c = record_lines t (slots_in_order (tree_in t c))

-- value is the count, more the root
abbrev pub list_answer : List ℕ → Answer
list_answer t = accepted (word t change_word) (word t count_word) (word t root_word) 0

-- then the records
unfoldable pub listed : List ℕ → ℕ → List ℕ
listed t c = answer_line (list_answer t) ++ all_lines t c

-- an unsound table is refused as check refuses it
abbrev pub listing : List ℕ → Result ℕ Refusal → List ℕ
listing t (Err why) = answer_line (refusal why)
listing t (Ok c) = listed t c

unfoldable pub list_text : List ℕ → List ℕ
list_text t = listing t (sound_gate t true)

-- the most bytes of it, for a table of n words
abbrev pub list_room : ℕ → ℕ
list_room n = answer_room + record_room * (n / slot_words)
