-- When a slot is fit, when it is blank, and when the header is good (document 01, "The table").
use Rattle.std.specs.Prelude.{ℕ, Bool, not, ◌&&◌, ◌||◌, List, leb, eqb}
use Rattle.scope.specs.Numbers.{most_height, most_pieces}
use Rattle.scope.specs.Table.{word, root_word, count_word, zero_word}
use Rattle.scope.specs.declared.slot.Slot.{Slot}

-- poured or remelt
unfoldable pub state_ok : ℕ → Bool
state_ok s = eqb s 1 || eqb s 2

unfoldable pub pieces_ok : ℕ → Bool
pieces_ok p = not (eqb p 0) && leb p most_pieces

-- a record whose key, pieces and state are in range
unfoldable pub record_ok : ℕ → ℕ → ℕ → Bool
record_ok key pieces state = not (eqb key 0) && pieces_ok pieces && state_ok state

-- a link of a table of c slots and the register beside it, which is 0 beside an empty link
unfoldable pub link_ok : ℕ → ℕ → ℕ → Bool
link_ok c link height = leb link c && leb height most_height && (not (eqb link 0) || eqb height 0)

-- what stands after the registers
unfoldable pub tail_ok : ℕ → Bool
tail_ok last = eqb last 0

abbrev pub tail_fits : Slot → Bool
tail_fits s = tail_ok s.last

-- a slot that holds a record whose every field is in range
unfoldable pub fit_slot : ℕ → Slot → Bool
fit_slot c s =
    state_ok s.state && not (eqb s.key 0) && pieces_ok s.pieces
    && link_ok c s.left s.lefth && link_ok c s.right s.righth && tail_fits s

-- every word is zero
unfoldable pub blank_slot : Slot → Bool
blank_slot s =
    eqb s.state 0 && eqb s.key 0 && eqb s.pieces 0 && eqb s.left 0
    && eqb s.right 0 && eqb s.lefth 0 && eqb s.righth 0 && eqb s.last 0

-- root and count are at most c, and word 3 is 0
unfoldable pub header_ok : ℕ → List ℕ → Bool
header_ok c t = leb (word t root_word) c && leb (word t count_word) c && eqb (word t zero_word) 0
