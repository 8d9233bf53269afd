-- Fields that are read stand there as they are printed. Assumes nothing.
use Prim.Native.Nat.{ℕ, ◌+◌, ◌≤◌}
use mathlib.Core.Path.{◌≡◌, refl, sym, ap, ◌∙◌}
use mathlib.Core.Bool.{Bool, true, false, cond, true≢false}
use mathlib.Core.List.{List, [], ◌∷◌, ◌++◌, append_assoc}
use lib.ListN.{length, drop}
use lib.Seq.{drop-drop}
use lib.Dec.{eqb}
use borrow.Author.Tests.{eqb-true}
use Rattle.scope.proofs.Bools.{and_l, and_r}
use Rattle.text_fields.specs.Text.{starts_with}
use Rattle.text_fields.specs.Decimal.{decimal, field, fields}
use Rattle.text_fields.specs.Number.{largest, is_digit, digits_of, number_at}
use Rattle.std.specs.Prelude.{Option, Some, None}
use Rattle.text_fields.specs.Read.{numbers, word_then, pushed, number_then, field_then, fields_then}
use Rattle.text_fields.specs.declared.number.Number.{Number}
use Rattle.text_fields.specs.declared.read.Read.{Read}
use Rattle.text_readings.proofs.Only.{number-only}
use Rattle.text_readings.proofs.Told.{NumbersTold, none, more, after_numbers, other-stays}

-- a line that begins with a word is the word and the rest
pub starts-split : (w s : List ℕ) → starts_with w s ≡ true → s ≡ w ++ drop (length w) s
unfolding starts_with
starts-split [] s e = refl
starts-split (c ∷ w) [] e = absurd (true≢false (sym e))
starts-split (c ∷ w) (d ∷ s) e =
    rw (eqb-true d c (and_l (eqb d c) (starts_with w s) e))
    (ap (λ (t : List ℕ). c ∷ t) (starts-split w s (and_r (eqb d c) (starts_with w s) e)))

-- a text is the digits that it begins with and the rest
digits-split : (l : List ℕ) → l ≡ digits_of l ++ drop (length (digits_of l)) l
unfolding digits_of
digits-split [] = refl
digits-split (c ∷ l) = go (is_digit c) (digits-split l)
  where
    go : (b : Bool) → l ≡ digits_of l ++ drop (length (digits_of l)) l
        → c ∷ l ≡ cond b (c ∷ digits_of l) [] ++ drop (length (cond b (c ∷ digits_of l) [])) (c ∷ l)
    go true ih = ap (λ (t : List ℕ). c ∷ t) ih
    go false ih = refl

-- a field that is read stands there
pub record FieldIs (s w : List ℕ) (p b c a' b' n q : ℕ) : Type 0 where
  pub first : a' ≡ b
  pub second : b' ≡ c
  pub small : n ≤ largest
  pub text : drop p s ≡ field w n ++ drop q s

unfoldable pub FieldRead : List ℕ → List ℕ → ℕ → ℕ → ℕ → Option Read → Type 0
FieldRead s w p b c None = Unit {0}
FieldRead s w p b c (Some r) = FieldIs s w p b c r.a r.b r.c r.next

field-only : (s w : List ℕ) (a b c p : ℕ) → FieldRead s w p b c (field_then s w (numbers a b c p))
unfolding FieldRead word_then number_then
field-only s w a b c p = word (starts_with w (drop p s)) refl
  where
    number : (r : Option Number) → r ≡ number_at s (p + length w) → starts_with w (drop p s) ≡ true → FieldRead s w p b c (pushed b c r)
    number None e t = tt
    number (Some n) e t =
        let o = number-only s (p + length w) n e in
        let l : drop (p + length w) s ≡ decimal n.value ++ drop n.next s =
        digits-split (drop (p + length w) s)
        ∙ rw (o.1, drop-drop (length (decimal n.value)) (p + length w) s, sym o.2) in
        record {
          first = refl;
          second = refl;
          small = o.0;
          text =
              starts-split w (drop p s) t
              ∙ ap (λ (x : List ℕ). w ++ x) (drop-drop (length w) p s ∙ l)
              ∙ sym (append_assoc w (decimal n.value) (drop n.next s));
        }

    word : (t : Bool) → starts_with w (drop p s) ≡ t → FieldRead s w p b c (number_then s (cond t (numbers a b c (p + length w)) None))
    word false e = tt
    word true e = number (number_at s (p + length w)) refl e

-- so do fields one after the other
pub record FieldsAre (s : List ℕ) (ws : List (List ℕ)) (a b c p : ℕ) (r : Option Read) (q : ℕ) : Type 0 where
  pub ns : List ℕ
  pub told : NumbersTold ws ns
  pub is : r ≡ after_numbers a b c ns q
  pub text : drop p s ≡ fields ws ns ++ drop q s

unfoldable pub FieldsRead : List ℕ → List (List ℕ) → ℕ → ℕ → ℕ → ℕ → Option Read → Type 0
FieldsRead s ws a b c p None = Unit {0}
FieldsRead s ws a b c p (Some r) = FieldsAre s ws a b c p (Some r) r.next

pub fields-only : (s : List ℕ) (ws : List (List ℕ)) (a b c p : ℕ) → FieldsRead s ws a b c p (fields_then s ws (numbers a b c p))
unfolding fields_then fields after_numbers FieldRead FieldsRead
fields-only s [] a b c p = record { ns = []; told = none; is = refl; text = refl }
fields-only s (w ∷ ws) a b c p = go (field_then s w (numbers a b c p)) (field-only s w a b c p) (λ x y z q. fields-only s ws x y z q)
  where
    all : (x y n q : ℕ) → FieldIs s w p b c x y n q → (r : Option Read) → FieldsRead s ws x y n q r → FieldsRead s (w ∷ ws) a b c p r
    all x y n q f None i = tt
    all x y n q f (Some r) i =
        record {
          ns = n ∷ i.ns;
          told = more f.small i.told;
          is = i.is ∙ rw (f.first, f.second);
          text = f.text ∙ ap (λ (l : List ℕ). field w n ++ l) i.text ∙ sym (append_assoc (field w n) (fields ws i.ns) (drop r.next s));
        }

    go : (r : Option Read) → FieldRead s w p b c r
        → ((x y z q : ℕ) → FieldsRead s ws x y z q (fields_then s ws (numbers x y z q)))
        → FieldsRead s (w ∷ ws) a b c p (fields_then s ws r)
    go None f ih = rw other-stays tt
    go (Some r) f ih = all r.a r.b r.c r.next f (fields_then s ws (Some r)) (ih r.a r.b r.c r.next)
