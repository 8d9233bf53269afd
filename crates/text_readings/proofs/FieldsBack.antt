-- Printed fields are read back. Assumes nothing.
use Prim.Native.Nat.{ℕ, ◌+◌, ◌≤◌}
use mathlib.Core.Path.{◌≡◌, refl, sym, ap, ◌∙◌}
use mathlib.Core.Bool.{Bool, true, false, cond, not, true≢false}
use mathlib.Core.List.{List, [], ◌∷◌, ◌++◌, append_assoc}
use native.Mathlib.Omega.{arith}
use native.Mathlib.Nat.{add-zero}
use lib.ListN.{length, drop, length-append}
use borrow.Author.Tests.{eq-eqb}
use Rattle.scope.proofs.Bools.{and_l, and_r}
use Rattle.text_fields.specs.Text.{starts_with}
use Rattle.text_fields.specs.Decimal.{decimal, field, fields}
use Rattle.text_fields.specs.Number.{largest, is_digit, digits_of}
use Rattle.text_fields.specs.Read.{numbers, word_then, number_then, field_then, fields_then}
use Rattle.text_readings.proofs.Back.{number-back}
use Rattle.text_readings.proofs.Told.{NumbersTold, none, more, after_numbers, spaced, all_spaced, drop-on}

pub starts-word : (w rest : List ℕ) → starts_with w (w ++ rest) ≡ true
unfolding starts_with
starts-word [] rest = refl
starts-word (c ∷ w) rest = rw (eq-eqb c c refl, starts-word w rest)

pub word_back : (s : List ℕ) (at : ℕ) (w rest : List ℕ) (a b c : ℕ) → drop at s ≡ w ++ rest
    → word_then s w (numbers a b c at) ≡ numbers a b c (at + length w)
unfolding word_then
word_back s at w rest a b c e = rw (e, starts-word w rest)

field_back : (s : List ℕ) (at : ℕ) (w : List ℕ) (n : ℕ) (rest : List ℕ) (a b c : ℕ) → drop at s ≡ field w n ++ rest
    → n ≤ largest → digits_of rest ≡ [] → field_then s w (numbers a b c at) ≡ numbers b c n (at + length (field w n))
unfolding number_then
field_back s at w n rest a b c e h d =
    let f = e ∙ append_assoc w (decimal n) rest in
    let q : at + length w + length (decimal n) ≡ at + length (field w n) = omega (arith, length-append w (decimal n)) in
    rw (word_back s at w (decimal n ++ rest) a b c f, number-back s (at + length w) n rest (drop-on s at w f) h d, q)

-- no digit stands where printed fields begin
fields-head : {ws : List (List ℕ)} {ns : List ℕ} (rest : List ℕ) → all_spaced ws ≡ true → NumbersTold ws ns → digits_of rest ≡ []
    → digits_of (fields ws ns ++ rest) ≡ []
unfolding fields spaced all_spaced digits_of
fields-head rest p none d = d
fields-head rest p (more {w} {ws} {n} {ns} h t) d = go w (and_l (spaced w) (all_spaced ws) p)
  where
    first : (b : Bool) (l : List ℕ) → not b ≡ true → cond b l [] ≡ []
    first false l e = refl
    first true l e = absurd (true≢false (sym e))

    go : (w : List ℕ) → spaced w ≡ true → digits_of (fields (w ∷ ws) (n ∷ ns) ++ rest) ≡ []
    go [] e = absurd (true≢false (sym e))
    go (c ∷ w) e = first (is_digit c) _ e

pub fields_back : {ws : List (List ℕ)} {ns : List ℕ} (s : List ℕ) (at : ℕ) (rest : List ℕ) (a b c : ℕ)
    → all_spaced ws ≡ true → NumbersTold ws ns → drop at s ≡ fields ws ns ++ rest → digits_of rest ≡ []
    → fields_then s ws (numbers a b c at) ≡ after_numbers a b c ns (at + length (fields ws ns))
unfolding fields_then fields after_numbers all_spaced
fields_back s at rest a b c p none e d = rw add-zero
fields_back s at rest a b c p (more {w} {ws} {n} {ns} h t) e d =
    let ps = and_r (spaced w) (all_spaced ws) p in
    let f : drop at s ≡ field w n ++ (fields ws ns ++ rest) = e ∙ append_assoc (field w n) (fields ws ns) rest in
    let q : at + length (field w n) + length (fields ws ns) ≡ at + length (field w n ++ fields ws ns) =
    omega (arith, length-append (field w n) (fields ws ns)) in
    ap (fields_then s ws) (field_back s at w n (fields ws ns ++ rest) a b c f h (fields-head rest ps t d))
    ∙ fields_back s (at + length (field w n)) rest b c n ps t (drop-on s at (field w n) f) d
    ∙ ap (after_numbers b c n ns) q
