-- What the height answers, and what a record counts of a total. Assumes nothing: these are statements.
use Rattle.std.specs.Prelude.{ℕ, true, cond, List, leb}
use Rattle.scope.specs.Table.{word, change_word}
use Rattle.scope.specs.Tree.{true_height}
use Rattle.scope.specs.Sound.{tree_in}
use Rattle.scope.specs.Answers.{accepted, answering}
use Rattle.scope.specs.Sums.{sound_gate}
use Rattle.scope.specs.declared.answer.Answer.{Answer}

-- the true height of a sound table, answered as the calls of document 01 answer
unfoldable pub height_answer : List ℕ → Answer
height_answer t =
    answering (sound_gate t true) (λ c. accepted (word t change_word) (true_height (tree_in t c)) 0 0)

-- what a record counts of a total: its pieces, if its key is at most K
abbrev pub counted_of : ℕ → ℕ → ℕ → ℕ
counted_of K key pieces = cond (leb key K) pieces 0
