-- A run of digits read one by one, as `digits_at` does. Assumes nothing.
use Prim.Native.Nat.{ℕ, ◌+◌, ◌*◌, ◌-◌, ◌≤◌, ◌<◌}
use mathlib.Core.Path.{◌≡◌, sym, ap, ◌∙◌}
use mathlib.Core.Bool.{true, false, cond}
use mathlib.Core.List.{List, [], ◌∷◌}
use native.Mathlib.Omega.{arith}
use native.Mathlib.Nat.{le_refl, add-zero}
use lib.ListN.{length, drop, get_or}
use borrow.Author.Tests.{le-leb, lt-leb}
use Rattle.std.proofs.lemmas.List.{at_drop_more, at_drop_all}
use Rattle.std.specs.Prelude.{Some, None}
use Rattle.text_fields.specs.Number.{largest, is_digit, digits_of, value_from, digits_read, digits_at}

pub digits_step : (s : List ℕ) (i : ℕ) → i < length s
    → digits_of (drop i s) ≡ cond (is_digit (get_or s i 0)) (get_or s i 0 ∷ digits_of (drop (i + 1) s)) []
unfolding digits_of
digits_step s i h = at_drop_more digits_of s i 0 h

pub digits-end : (s : List ℕ) (i : ℕ) → length s ≤ i → digits_of (drop i s) ≡ []
unfolding digits_of
digits-end s i h = at_drop_all digits_of s i h

pub digits_more : (s : List ℕ) (i : ℕ) → i < length s → is_digit (get_or s i 0) ≡ true
    → digits_of (drop i s) ≡ get_or s i 0 ∷ digits_of (drop (i + 1) s)
digits_more s i h d = digits_step s i h ∙ rw d

pub digits-over : (s : List ℕ) (i : ℕ) → i < length s → is_digit (get_or s i 0) ≡ false → digits_of (drop i s) ≡ []
digits-over s i h d = digits_step s i h ∙ rw d

-- what more digits make is no less
pub value_grows : (v : ℕ) (text : List ℕ) → v ≤ value_from v text
unfolding value_from
value_grows v [] = le_refl v
value_grows v (c ∷ text) = omega (arith, value_grows (v * 10 + (c - 48)) text)

-- ---- the loop of `digits_at`: what holds at the place i of the text s, where the digits so far are worth v
pub record Reading (s : List ℕ) (v i : ℕ) : Type 0 where
  pub small : v ≤ largest
  pub value : value_from 0 (digits_of s) ≡ value_from v (digits_of (drop i s))
  pub place : length (digits_of s) ≡ i + length (digits_of (drop i s))

reading-more : {s : List ℕ} {v i : ℕ} → Reading s v i → i < length s → is_digit (get_or s i 0) ≡ true
    → value_from 0 (digits_of s) ≡ value_from (v * 10 + (get_or s i 0 - 48)) (digits_of (drop (i + 1) s))
unfolding value_from
reading-more {s} {v} {i} r h d = r.value ∙ rw (digits_more s i h d)

pub reading-next : {s : List ℕ} {v i : ℕ} (w : ℕ) → Reading s v i → i < length s → is_digit (get_or s i 0) ≡ true
    → w ≡ v * 10 + (get_or s i 0 - 48) → w ≤ largest → Reading s w (i + 1)
reading-next {s} {v} {i} w r h d e b =
    record {
      small = b;
      value = rw e (reading-more r h d);
      place = omega (arith, r.place, ap length (digits_more s i h d));
    }

pub reading-over : {s : List ℕ} {v i : ℕ} (l : List ℕ) (at : ℕ) → s ≡ drop at l → Reading s v i → i < length s
    → is_digit (get_or s i 0) ≡ true → largest < v * 10 + (get_or s i 0 - 48) → None ≡ digits_at l at
unfolding digits_read
reading-over {s} {v} {i} l at e r h d b =
    let big : largest < value_from 0 (digits_of s) =
    omega (arith, reading-more r h d, value_grows (v * 10 + (get_or s i 0 - 48)) (digits_of (drop (i + 1) s))) in
    rw (sym e, lt-leb _ _ big)

pub reading-done : {s : List ℕ} {v i : ℕ} (l : List ℕ) (at next : ℕ) → s ≡ drop at l → Reading s v i → digits_of (drop i s) ≡ []
    → next ≡ at + i → Some (record { value = v; next = next }) ≡ digits_at l at
unfolding digits_read value_from
reading-done {s} {v} {i} l at next e r d n =
    let w : value_from 0 (digits_of s) ≡ v = r.value ∙ rw d in
    let p : length (digits_of s) ≡ i = r.place ∙ rw (d, add-zero) in
    rw (sym e, w, p, n, le-leb _ _ r.small)
