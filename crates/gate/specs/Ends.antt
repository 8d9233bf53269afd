-- How an accepted call ends, and what it is to do a call. Assumes nothing: these are definitions.
use Rattle.std.specs.Prelude.{ℕ, ◌+◌, ◌≡◌, List, set}
use Rattle.scope.specs.Table.{count_word, change_word}
use Rattle.scope.specs.Answers.{Done, accepted}
use Rattle.scope.specs.declared.answer.Answer.{Answer}

-- answer and table are those of a definition
abbrev pub Does : Done → Answer → List ℕ → Type 0
Does d answer words = (answer ≡ d.answer) × (words ≡ d.words)

-- one change more than before, and the answer names a slot
abbrev pub next_numbered : List ℕ → ℕ → ℕ → Done
next_numbered t before slot = record { answer = accepted (before + 1) slot 0 0; words = set t change_word (before + 1) }

-- so many records, and one change more
abbrev pub settled : List ℕ → ℕ → ℕ → ℕ → Done
settled t count before slot = next_numbered (set t count_word count) before slot
