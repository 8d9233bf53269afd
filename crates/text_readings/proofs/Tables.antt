-- The ten forms: each is reached by its name, is short enough, and its numbers come back. Assumes nothing.
use Prim.Native.Nat.{ℕ, ◌+◌, ◌-◌}
use mathlib.Core.Path.{◌≡◌, refl}
use mathlib.Core.Bool.{Bool, true, false, ◌&&◌, ◌||◌, cond, not}
use mathlib.Core.Option.{Option, none, some}
use mathlib.Core.List.{List, [], ◌∷◌}
use lib.ListN.{length, drop}
use lib.Dec.{leb, eqb}
use Rattle.text_lines.specs.Form.{Form, form_of, forms, asked, made, readable}
use Rattle.text_lines.specs.declared.command.Op.{Op}
use Rattle.text_lines.specs.declared.command.Op.TheVariants.{Post, Amend, Drop, Find, Rank, Total, Worth, Fire, Tidy, List as Listing}
use Rattle.std.specs.Prelude.{Some, None}
use Rattle.text_readings.proofs.Told.{after_numbers, spaced, all_spaced}

-- w and u differ at some byte of both
unfoldable pub differ : List ℕ → List ℕ → Bool
differ [] u = false
differ (c ∷ w) [] = false
differ (c ∷ w) (d ∷ u) = not (eqb d c) || differ w u

-- the first form whose name a line can have that begins with n
unfoldable pub first_of : List ℕ → List Form → Option Form
first_of n [] = none
first_of n (f ∷ fs) = cond (differ f.name n) (first_of n fs) (some f)

-- the most bytes of a line with these words, each with a number of 32 bits
unfoldable pub room : List (List ℕ) → ℕ
room [] = 0
room (w ∷ ws) = length w + 10 + room ws

-- the form fits: at most 80 bytes, no word that begins with a digit, at most three numbers
unfoldable pub form_fits : Form → Bool
form_fits f = leb (length f.name + room f.words) 80 && (all_spaced f.words && leb (length f.words) 3)

pub record ProperForm (o : Op) : Type 0 where
  pub op : (form_of o).op ≡ o
  pub first : first_of (form_of o).name forms ≡ some (form_of o)
  pub fit : form_fits (form_of o) ≡ true
  pub asks : (a b c q : ℕ)
      → made o (after_numbers 0 0 0 (drop (3 - length (form_of o).words) (a ∷ b ∷ c ∷ [])) q) None ≡ Some (asked o a b c)
  pub read : (a b c : ℕ) → readable (Some (asked o a b c)) ≡ true

pub proper : (o : Op) → ProperForm o
unfolding form_of differ first_of room form_fits spaced all_spaced after_numbers readable
proper Post = record { op = refl; first = refl; fit = refl; asks = λ a b c q. refl; read = λ a b c. refl }
proper Amend = record { op = refl; first = refl; fit = refl; asks = λ a b c q. refl; read = λ a b c. refl }
proper Drop = record { op = refl; first = refl; fit = refl; asks = λ a b c q. refl; read = λ a b c. refl }
proper Find = record { op = refl; first = refl; fit = refl; asks = λ a b c q. refl; read = λ a b c. refl }
proper Rank = record { op = refl; first = refl; fit = refl; asks = λ a b c q. refl; read = λ a b c. refl }
proper Total = record { op = refl; first = refl; fit = refl; asks = λ a b c q. refl; read = λ a b c. refl }
proper Worth = record { op = refl; first = refl; fit = refl; asks = λ a b c q. refl; read = λ a b c. refl }
proper Fire = record { op = refl; first = refl; fit = refl; asks = λ a b c q. refl; read = λ a b c. refl }
proper Tidy = record { op = refl; first = refl; fit = refl; asks = λ a b c q. refl; read = λ a b c. refl }
proper Listing = record { op = refl; first = refl; fit = refl; asks = λ a b c q. refl; read = λ a b c. refl }
