-- check, rank and total: what a sound table is asked as a whole (document 01, "Calls and what they answer").
use Rattle.std.specs.Prelude.{ℕ, ◌+◌, ◌-◌, Bool, true, cond, not, List, map, length, get_or, leb, eqb, Result, Ok, Err}
use Rattle.scope.specs.Table.{word, change_word}
use Rattle.scope.specs.Tree.{Tree, leaf, node, in_order}
use Rattle.scope.specs.Sound.{sound_table, tree_in}
use Rattle.scope.specs.Answers.{accepted, refusal, gate, answering}
use Rattle.scope.specs.declared.answer.Answer.{Answer}
use Rattle.scope.specs.declared.answer.Refusal.{Refusal}
use Rattle.scope.specs.declared.answer.Refusal.TheVariants.{KeyAbsent}

-- the gate of the calls that want a sound table
abbrev pub sound_gate : List ℕ → Bool → Result ℕ Refusal
sound_gate t in_range = gate t in_range (λ c. sound_table t c)

unfoldable pub check_answer : List ℕ → Answer
check_answer t = answering (sound_gate t true) (λ c. accepted (word t change_word) 0 0 0)

-- the slots in the order of their keys
abbrev pub slots_in_order : Tree → List ℕ
slots_in_order T = map (λ d. d.slot) (in_order T)

-- the r-th of a list, counted from 1; the list's length where there are fewer
unfoldable pub pick : ℕ → List ℕ → Result ℕ ℕ
pick r l = cond (leb r (length l)) (Ok (get_or l (r - 1) 0)) (Err (length l))

unfoldable pub rank_of : ℕ → Tree → Result ℕ ℕ
rank_of r T = pick r (slots_in_order T)

unfoldable pub ranked : List ℕ → Result ℕ ℕ → Answer
ranked t (Ok slot) = accepted (word t change_word) slot 0 0
ranked t (Err n) = refusal KeyAbsent

unfoldable pub rank_answer : List ℕ → ℕ → Answer
rank_answer t r = answering (sound_gate t (not (eqb r 0))) (λ c. ranked t (rank_of r (tree_in t c)))

-- the pieces of all records with a key of at most K
unfoldable pub total_of : ℕ → Tree → ℕ
total_of K leaf = 0
total_of K (node d a b l r) = total_of K l + total_of K r + cond (leb d.key K) d.pieces 0

unfoldable pub total_answer : List ℕ → ℕ → Answer
total_answer t K =
    answering (sound_gate t true) (λ c. accepted (word t change_word) (total_of K (tree_in t c)) 0 0)
