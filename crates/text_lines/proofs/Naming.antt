-- The names of the forms: `op=`, and what stands behind it. Assumes nothing.
use Rattle.std.proofs.Common.{◌≡◌, ◌≢◌, ℕ, ◌+◌, ◌<◌, true, false, List, [], ◌∷◌, ◌++◌, length, drop, get_or, map}
use Rattle.std.proofs.Common.{refl, ap, ◌∙◌, None, arith}
use Rattle.text_fields.specs.Text.{bytes, starts_with}
use Rattle.text_fields.specs.Read.{begin, numbers, word_then, fields_then, end_then}
use Rattle.text_fields.proofs.Words.{begins-or-not}
use Rattle.text_fields.proofs.Reading.{unread-words}
use Rattle.text_lines.specs.Form.{tried}
use Rattle.text_lines.specs.Shape.{op_form}
use Rattle.text_lines.specs.declared.form.Shape.{Shape}
use Rattle.text_lines.proofs.Trying.{tried-more}

-- of a line that begins with a form's name the name is read
pub name-read : (s : List ℕ) (f : Shape) → starts_with (op_form f).name s ≡ true
    → numbers 0 0 0 (3 + length f.name.now) ≡ word_then s (op_form f).name begin
unfolding word_then
name-read s f e =
    let same : 3 + length f.name.now ≡ 0 + length (op_form f).name = omega arith in
    rw e (ap (λ n. numbers 0 0 0 n) same)

-- what stands behind `op=` begins with a form's name where the line does
pub named-too : (s named name : List ℕ) → s ≡ bytes "op=" ++ named → starts_with name named ≡ true → starts_with (bytes "op=" ++ name) s ≡ true
unfolding starts_with
named-too s named name is e = rw is e

-- a line that does not begin with the name of a form is not of it
not-named : (s : List ℕ) (f : Shape) → starts_with (op_form f).name s ≡ false
    → end_then s (fields_then s (op_form f).words (word_then s (op_form f).name begin)) ≡ None
unfolding word_then end_then
not-named s f e = rw (e, unread-words s (op_form f).words) refl

-- a line of another name is not of the next form
pub other-name : (s named : List ℕ) (shapes : List Shape) (i : ℕ) (d : Shape) → s ≡ bytes "op=" ++ named → i < length shapes
    → starts_with (get_or shapes i d).name.now named ≡ false
    → tried (map op_form (drop i shapes)) s None ≡ tried (map op_form (drop (i + 1) shapes)) s None
unfolding starts_with
other-name s named shapes i d is h e =
    tried-more op_form s shapes i d h ∙ rw (not-named s (get_or shapes i d) (rw is e)) refl

-- a line that does not begin with `op=` is of no form
pub no-name : (s : List ℕ) (shapes : List Shape) → ((rest : List ℕ) → s ≢ bytes "op=" ++ rest) → tried (map op_form shapes) s None ≡ None
unfolding tried
no-name s [] never = refl
no-name s (f ∷ fs) never =
    begins-or-not (op_form f).name s
    (λ p. absurd (never _ p))
    (λ p. rw (not-named s f p) (no-name s fs never))
