-- A number as decimal text, and fields one after the other (document 01, "The program").
use Rattle.std.specs.Prelude.{ℕ, zero, suc, ◌+◌, ◌/◌, ◌%◌, cond, List, [], ◌∷◌, ◌++◌, ltb}

-- the digits of n, at most k of them: one below 10 is its digit, any other the digits of n / 10 and then the last
unfoldable pub decimal_in : ℕ → ℕ → List ℕ
decimal_in zero n = []
decimal_in (suc k) n = cond (ltb n 10) ((48 + n) ∷ []) (decimal_in k (n / 10) ++ ((48 + n % 10) ∷ []))

-- n in decimal, for n below 10 ^ 20, as every number of 64 bits is
unfoldable pub decimal : ℕ → List ℕ
decimal n = decimal_in 20 n

-- a word with a number right after it
abbrev pub field : List ℕ → ℕ → List ℕ
field w n = w ++ decimal n

-- each word with its number
unfoldable pub fields : List (List ℕ) → List ℕ → List ℕ
fields [] ns = []
fields (w ∷ ws) [] = []
fields (w ∷ ws) (n ∷ ns) = field w n ++ fields ws ns
