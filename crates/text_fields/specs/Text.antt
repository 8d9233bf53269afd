-- Text as bytes, and where its lines end (document 01, "The program").
use Rattle.std.specs.Prelude.{ℕ, ◌+◌, ◌≤◌, Bool, true, false, ◌&&◌, cond, List, [], ◌∷◌, ◌≡◌, length, drop, eqb}
use Prim.Native.Char.{code}
use Prim.Native.String.{String, [] as none, ◌∷◌ as ◌then◌}

-- the bytes of a text of plain characters
abbrev pub bytes : String → List ℕ
bytes none = []
bytes (◌then◌ c s) = code c ∷ bytes s

-- s begins with the word w
unfoldable pub starts_with : List ℕ → List ℕ → Bool
starts_with [] s = true
starts_with (c ∷ w) [] = false
starts_with (c ∷ w) (d ∷ s) = eqb d c && starts_with w s

-- the first line of s, without its newline
unfoldable pub first_line : List ℕ → List ℕ
first_line [] = []
first_line (c ∷ s) = cond (eqb c 10) [] (c ∷ first_line s)

-- the line that begins at the place `from` of s ends at the place r
pub record LineEnds (s : List ℕ) (from r : ℕ) : Type 0 where
  pub is : r ≡ from + length (first_line (drop from s))
  pub within : r ≤ length s
