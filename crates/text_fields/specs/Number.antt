-- Numbers in a line: decimal, no sign, no leading zero, within 32 bits (document 01, "The program").
use Rattle.std.specs.Prelude.{ℕ, ◌+◌, ◌*◌, ◌-◌, Bool, ◌&&◌, not, cond, List, [], ◌∷◌, length, drop, get_or, ltb, leb, eqb}
use Rattle.std.specs.Prelude.{Option, Some, None}
use Rattle.text_fields.specs.declared.number.Number.{Number}

-- the largest number of 32 bits
abbrev pub largest : ℕ
largest = 4294967295

-- `0` to `9`
abbrev pub is_digit : ℕ → Bool
is_digit c = leb 48 c && leb c 57

-- the digits that s begins with
unfoldable pub digits_of : List ℕ → List ℕ
digits_of [] = []
digits_of (c ∷ s) = cond (is_digit c) (c ∷ digits_of s) []

-- the number that digits spell, after others that spell v
unfoldable pub value_from : ℕ → List ℕ → ℕ
value_from v [] = v
value_from v (c ∷ text) = value_from (v * 10 + (c - 48)) text

abbrev pub value_of : List ℕ → ℕ
value_of text = value_from 0 text

-- two digits or more, of which the first is `0`
abbrev pub leading_zero : List ℕ → Bool
leading_zero text = ltb 1 (length text) && eqb (get_or text 0 0) 48

-- what digits are worth that begin at the place `at`, and the place after them
abbrev pub spelled : ℕ → List ℕ → Number
spelled at text = record { value = value_of text; next = at + length text }

-- the number that they are
unfoldable pub number_of : ℕ → List ℕ → Option Number
number_of at text =
    cond (ltb 0 (length text) && not (leading_zero text) && leb (value_of text) largest) (Some (spelled at text)) None

-- the number at the place `at` of s: all the digits that stand there
abbrev pub number_at : List ℕ → ℕ → Option Number
number_at s at = number_of at (digits_of (drop at s))

-- the digits alone, with zeros in front or none at all
unfoldable pub digits_read : ℕ → List ℕ → Option Number
digits_read at text = cond (leb (value_of text) largest) (Some (spelled at text)) None

abbrev pub digits_at : List ℕ → ℕ → Option Number
digits_at s at = digits_read at (digits_of (drop at s))
