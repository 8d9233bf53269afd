-- Nothing is read on once a word was not there. Assumes nothing.
use Rattle.std.proofs.Common.{◌≡◌, ℕ, List, [], ◌∷◌, refl, None}
use Rattle.text_fields.specs.Read.{word_then, number_then, fields_then}

-- what is not read of a form's name is not read of its words
pub unread-words : (s : List ℕ) (ws : List (List ℕ)) → fields_then s ws None ≡ None
unfolding fields_then word_then number_then
unread-words s [] = refl
unread-words s (w ∷ ws) = unread-words s ws
