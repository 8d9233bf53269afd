-- A line read from left to right: words, numbers, and its end (document 01, "The program").
use Rattle.std.specs.Prelude.{ℕ, ◌+◌, cond, List, [], ◌∷◌, length, drop, eqb, Option, Some, None}
use Rattle.text_fields.specs.Text.{starts_with}
use Rattle.text_fields.specs.Number.{number_at}
use Rattle.text_fields.specs.declared.number.Number.{Number}
use Rattle.text_fields.specs.declared.read.Read.{Read}

-- three numbers are read, up to the place `at`
abbrev pub numbers : ℕ → ℕ → ℕ → ℕ → Option Read
numbers a b c at = Some (record { a = a; b = b; c = c; next = at })

-- nothing read yet
abbrev pub begin : Option Read
begin = numbers 0 0 0 0

-- the word w, right where the reading stands
unfoldable pub word_then : List ℕ → List ℕ → Option Read → Option Read
word_then s w (Some r) = cond (starts_with w (drop r.next s)) (numbers r.a r.b r.c (r.next + length w)) None
word_then s w None = None

-- one number more; of the three before it the first is forgotten
abbrev pub pushed : ℕ → ℕ → Option Number → Option Read
pushed b c (Some n) = numbers b c n.value n.next
pushed b c None = None

-- a number, right where the reading stands
unfoldable pub number_then : List ℕ → Option Read → Option Read
number_then s (Some r) = pushed r.b r.c (number_at s r.next)
number_then s None = None

-- a word with a number right after it, and several of them
abbrev pub field_then : List ℕ → List ℕ → Option Read → Option Read
field_then s w r = number_then s (word_then s w r)

unfoldable pub fields_then : List ℕ → List (List ℕ) → Option Read → Option Read
fields_then s [] r = r
fields_then s (w ∷ ws) r = fields_then s ws (field_then s w r)

-- the line ends where the reading stands
unfoldable pub end_then : List ℕ → Option Read → Option Read
end_then s (Some r) = cond (eqb r.next (length s)) (Some r) None
end_then s None = None
