-- Words with as many numbers, and what is known after some of them. Assumes nothing.
use Prim.Native.Nat.{ℕ, ◌+◌, ◌≤◌}
use mathlib.Core.Path.{◌≡◌, refl, sym, ap, ◌∙◌}
use mathlib.Core.Bool.{Bool, true, false, ◌&&◌, not}
use mathlib.Core.List.{List, [], ◌∷◌, ◌++◌}
use lib.ListN.{length, drop}
use lib.Seq.{drop-drop, drop-append_seam}
use Rattle.text_fields.specs.Number.{largest, is_digit}
use Rattle.std.specs.Prelude.{Option, None}
use Rattle.text_fields.specs.Read.{numbers, word_then, number_then, fields_then}
use Rattle.text_fields.specs.declared.read.Read.{Read}

-- words, and as many numbers of 32 bits
pub data NumbersTold : List (List ℕ) → List ℕ → Type 0 where
  none : NumbersTold [] []
  more : {w : List ℕ} {ws : List (List ℕ)} {n : ℕ} {ns : List ℕ} → n ≤ largest → NumbersTold ws ns → NumbersTold (w ∷ ws) (n ∷ ns)

-- what is known after some numbers more
unfoldable pub after_numbers : ℕ → ℕ → ℕ → List ℕ → ℕ → Option Read
after_numbers a b c [] at = numbers a b c at
after_numbers a b c (n ∷ ns) at = after_numbers b c n ns at

-- words that begin with no digit
unfoldable pub spaced : List ℕ → Bool
spaced [] = false
spaced (c ∷ w) = not (is_digit c)

unfoldable pub all_spaced : List (List ℕ) → Bool
all_spaced [] = true
all_spaced (w ∷ ws) = spaced w && all_spaced ws

-- from a place on stands u: what follows it
pub drop-on : (s : List ℕ) (at : ℕ) (u : List ℕ) {rest : List ℕ} → drop at s ≡ u ++ rest → drop (at + length u) s ≡ rest
drop-on s at u {rest} e = sym (drop-drop (length u) at s) ∙ ap (drop (length u)) e ∙ drop-append_seam u rest

-- a line of another form stays so
pub other-stays : (s : List ℕ) (ws : List (List ℕ)) → fields_then s ws None ≡ None
unfolding fields_then word_then number_then
other-stays s [] = refl
other-stays s (w ∷ ws) = other-stays s ws
