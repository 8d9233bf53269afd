-- The words of a form, read one after the other, and forms tried one after the other. Assumes nothing.
use Rattle.std.proofs.Common.{◌≡◌, ℕ, ◌+◌, ◌≤◌, ◌<◌, true, false, List, [], ◌∷◌, length, drop, get_or, map, Bor, refl, ap}
use Rattle.std.proofs.Common.{◌∙◌, sym, Some, None, Option, is_some}
use Rattle.std.proofs.lemmas.Bool.{false≢true}
use Rattle.std.proofs.lemmas.List.{at_drop_more, at_drop_all}
use Rattle.text_fields.specs.Read.{field_then, fields_then}
use Rattle.text_fields.specs.declared.read.Read.{Read}
use Rattle.text_lines.specs.Form.{Form, made, form_read, tried}
use Rattle.text_lines.specs.declared.command.Command.{Command}

-- the texts behind some references
abbrev pub texts : List (Bor (List ℕ)) → List (List ℕ)
texts ws = map (λ w. w.now) ws

-- one word more is read, and at the end all are
pub words-more : (s : List ℕ) (ws : List (Bor (List ℕ))) (i : ℕ) (d : Bor (List ℕ)) (r : Option Read) → i < length ws
    → fields_then s (texts (drop i ws)) r ≡ fields_then s (texts (drop (i + 1) ws)) (field_then s (get_or ws i d).now r)
unfolding fields_then
words-more s ws i d r h = at_drop_more (λ l. fields_then s (texts l) r) ws i d h

pub words-all : (s : List ℕ) (ws : List (Bor (List ℕ))) (i : ℕ) (r : Option Read) → length ws ≤ i
    → fields_then s (texts (drop i ws)) r ≡ r
unfolding fields_then
words-all s ws i r h = at_drop_all (λ l. fields_then s (texts l) r) ws i h

-- of shapes, whatever form each has: a line is of the next form, or it is not, and then the forms after it are tried
module _ {A : Type 0} (form_by : A → Form) where
  pub tried-more : (s : List ℕ) (shapes : List A) (i : ℕ) (d : A) → i < length shapes
      → tried (map form_by (drop i shapes)) s None
      ≡ made (form_by (get_or shapes i d)).op (form_read s (form_by (get_or shapes i d))) (tried (map form_by (drop (i + 1) shapes)) s None)
  unfolding tried
  tried-more s shapes i d h = at_drop_more (λ l. tried (map form_by l) s None) shapes i d h

  pub tried-here : (s : List ℕ) (shapes : List A) (i : ℕ) (d : A) (x : Option Command) → i < length shapes
      → x ≡ tried (form_by (get_or shapes i d) ∷ []) s None → is_some x ≡ true
      → x ≡ tried (map form_by (drop i shapes)) s None
  unfolding tried
  tried-here s shapes i d x h e p = go (form_read s (form_by (get_or shapes i d))) e ∙ sym (tried-more s shapes i d h)
    where
      go : (r : Option Read) → x ≡ made (form_by (get_or shapes i d)).op r None
          → x ≡ made (form_by (get_or shapes i d)).op r (tried (map form_by (drop (i + 1) shapes)) s None)
      go (Some r) e = e
      go None e = absurd (false≢true (sym (ap is_some e) ∙ p))

  pub shape-tried : (s : List ℕ) (shapes : List A) (i : ℕ) (d : A) (x : Option Command) → i < length shapes
      → x ≡ tried (form_by (get_or shapes i d) ∷ []) s None → is_some x ≡ false
      → tried (map form_by (drop i shapes)) s None ≡ tried (map form_by (drop (i + 1) shapes)) s None
  unfolding tried
  shape-tried s shapes i d x h e p = tried-more s shapes i d h ∙ go (form_read s (form_by (get_or shapes i d))) e
    where
      go : (r : Option Read) → x ≡ made (form_by (get_or shapes i d)).op r None
          → made (form_by (get_or shapes i d)).op r (tried (map form_by (drop (i + 1) shapes)) s None)
          ≡ tried (map form_by (drop (i + 1) shapes)) s None
      go (Some r) e = absurd (false≢true (sym p ∙ ap is_some e))
      go None e = refl

  pub tried-none : (s : List ℕ) (shapes : List A) (i : ℕ) → length shapes ≤ i → tried (map form_by (drop i shapes)) s None ≡ None
  unfolding tried
  tried-none s shapes i h = at_drop_all (λ l. tried (map form_by l) s None) shapes i h
