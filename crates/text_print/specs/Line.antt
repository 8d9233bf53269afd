-- The line of an answer, and the line of a record (document 01, "The program").
use Rattle.std.specs.Prelude.{ℕ, ◌+◌, List, [], ◌∷◌, ◌++◌}
use Rattle.text_fields.specs.Text.{bytes}
use Rattle.text_fields.specs.Decimal.{fields}
use Rattle.scope.specs.declared.answer.Answer.{Answer}
use Rattle.scope.specs.declared.slot.Slot.{Slot}

abbrev pub newline : List ℕ
newline = bytes "\n"

-- the five numbers of an answer
abbrev pub answer_words : List (List ℕ)
answer_words = bytes "code=" ∷ bytes " change=" ∷ bytes " value=" ∷ bytes " more=" ∷ bytes " kind=" ∷ []

abbrev pub answer_numbers : Answer → List ℕ
answer_numbers a = a.code ∷ a.change ∷ a.value ∷ a.more ∷ a.kind ∷ []

unfoldable pub answer_line : Answer → List ℕ
answer_line a = fields answer_words (answer_numbers a) ++ newline

-- what a record holds and its slot, and then its links and registers
abbrev pub start_words : List (List ℕ)
start_words = bytes "key=" ∷ bytes " pieces=" ∷ bytes " state=" ∷ bytes " slot=" ∷ []

abbrev pub end_words : List (List ℕ)
end_words = bytes " left=" ∷ bytes " right=" ∷ bytes " lefth=" ∷ bytes " righth=" ∷ []

unfoldable pub record_start : ℕ → ℕ → ℕ → ℕ → List ℕ
record_start key pieces state slot = fields start_words (key ∷ pieces ∷ state ∷ slot ∷ [])

unfoldable pub record_end : ℕ → ℕ → ℕ → ℕ → List ℕ
record_end left right lefth righth = fields end_words (left ∷ right ∷ lefth ∷ righth ∷ []) ++ newline

abbrev pub record_numbers : ℕ → Slot → List ℕ
record_numbers slot s =
    s.key ∷ s.pieces ∷ s.state ∷ slot ∷ s.left ∷ s.right ∷ s.lefth ∷ s.righth ∷ []

unfoldable pub record_line : ℕ → Slot → List ℕ
record_line slot s = fields (start_words ++ end_words) (record_numbers slot s) ++ newline

-- the most bytes of each
abbrev pub answer_room : ℕ
answer_room = 133

abbrev pub start_room : ℕ
start_room = 105

abbrev pub end_room : ℕ
end_room = 109

abbrev pub record_room : ℕ
record_room = start_room + end_room
