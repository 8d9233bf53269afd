-- What a call for C leaves: the five numbers of its answer in their order, and its words. Assumes nothing.
use Rattle.std.specs.Prelude.{ℕ, ◌≡◌, List, [], ◌∷◌}
use Rattle.scope.specs.Calls.{Call, answer_of, table_of}
use Rattle.scope.specs.declared.answer.Answer.{Answer}

abbrev pub five_of : Answer → List ℕ
five_of a = a.code ∷ a.change ∷ a.value ∷ a.more ∷ a.kind ∷ []

-- call x on the words t leaves these numbers and the words u
abbrev pub Gives : Call → List ℕ → List ℕ → List ℕ → Type 0
Gives x t numbers u = (numbers ≡ five_of (answer_of x t)) × (u ≡ table_of x t)
