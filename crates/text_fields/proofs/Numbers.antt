-- From a run of digits to a number, as `number_at` goes. Assumes nothing.
use Prim.Native.Nat.{ℕ, suc, ◌+◌, ◌-◌, ◌≤◌, ◌<◌}
use mathlib.Core.Path.{◌≡◌, refl, ◌∙◌}
use mathlib.Core.Bool.{Bool, true, false, cond, and-false}
use mathlib.Core.List.{List, [], ◌∷◌}
use native.Mathlib.Omega.{arith}
use native.Mathlib.Nat.{le_refl, add-zero}
use lib.ListN.{length, drop, get_or, length-drop}
use lib.Seq.{get_or-drop}
use lib.Dec.{leb, ltb}
use borrow.Author.Tests.{le-leb, lt-leb, le-ltb, lt-ltb, eq-eqb, ne_eqb, leb-true, leb-false, ltb-true}
use Rattle.scope.proofs.Bools.{never, by_bool}
use Rattle.text_fields.specs.Number.{largest, is_digit, digits_of, value_from, leading_zero, spelled, digits_read, digits_at, number_of, number_at}
use Rattle.std.specs.Prelude.{Some, None}
use Rattle.text_fields.specs.declared.number.Number.{Number}

-- what is known of a run of digits that was read
pub record Known (s : List ℕ) (at v i : ℕ) : Type 0 where
  pub small : v ≤ largest
  pub value : value_from 0 (digits_of (drop at s)) ≡ v
  pub place : at + length (digits_of (drop at s)) ≡ i
  pub inside : length (digits_of (drop at s)) ≤ length s - at

digits-length : (s : List ℕ) → length (digits_of s) ≤ length s
unfolding digits_of
digits-length [] = le_refl 0
digits-length (c ∷ s) = go (is_digit c) (digits-length s)
  where
    go : (b : Bool) → length (digits_of s) ≤ length s → length (cond b (c ∷ digits_of s) []) ≤ suc (length s)
    go true h = omega arith
    go false h = omega arith

pub digits-known : (s : List ℕ) (at : ℕ) (n : Number) → Some n ≡ digits_at s at → Known s at n.value n.next
unfolding digits_read
digits-known s at n e = go (leb (value_from 0 (digits_of (drop at s))) largest) refl e
  where
    go : (b : Bool) → leb (value_from 0 (digits_of (drop at s))) largest ≡ b
        → Some n ≡ cond b (Some (spelled at (digits_of (drop at s)))) None → Known s at n.value n.next
    go true t q =
        let p : n ≡ spelled at (digits_of (drop at s)) = cc in
        let w : value_from 0 (digits_of (drop at s)) ≡ n.value = rw p refl in
        let k : at + length (digits_of (drop at s)) ≡ n.next = rw p refl in
        record {
          small = omega (arith, leb-true (value_from 0 (digits_of (drop at s))) largest t);
          value = w;
          place = k;
          inside = omega (arith, digits-length (drop at s), length-drop at s);
        }
    go false t q = never cc

pub digits-too : (s : List ℕ) (at : ℕ) → None ≡ digits_at s at → largest < value_from 0 (digits_of (drop at s))
unfolding digits_read
digits-too s at e = go (leb (value_from 0 (digits_of (drop at s))) largest) refl e
  where
    go : (b : Bool) → leb (value_from 0 (digits_of (drop at s))) largest ≡ b
        → None ≡ cond b (Some (spelled at (digits_of (drop at s)))) None
        → largest < value_from 0 (digits_of (drop at s))
    go true t q = never cc
    go false t q = leb-false _ _ t

-- the first of the digits is the byte that stands there
digits-first : (s : List ℕ) → 0 < length (digits_of s) → get_or (digits_of s) 0 0 ≡ get_or s 0 0
unfolding digits_of
digits-first [] h = refl
digits-first (c ∷ s) h = go (is_digit c) h
  where
    go : (b : Bool) → 0 < length (cond b (c ∷ digits_of s) []) → get_or (cond b (c ∷ digits_of s) []) 0 0 ≡ c
    go true h = refl
    go false h = absurd (omega arith)

first-at : (s : List ℕ) (at : ℕ) → 0 < length (digits_of (drop at s)) → get_or (digits_of (drop at s)) 0 0 ≡ get_or s at 0
first-at s at h = digits-first (drop at s) h ∙ get_or-drop at s 0 0 ∙ rw (add-zero)

pub number-empty : {s : List ℕ} {at v i : ℕ} → Known s at v i → i ≤ at → None ≡ number_at s at
unfolding number_of
number-empty {s} {at} k h = rw (le-ltb 0 (length (digits_of (drop at s))) (omega (arith, k.place)))

pub number-led : {s : List ℕ} {at v i : ℕ} → Known s at v i → at + 1 < i → get_or s at 0 ≡ 48 → None ≡ number_at s at
unfolding number_of
number-led {s} {at} k h e =
    let l : 1 < length (digits_of (drop at s)) = omega (arith, k.place) in
    let p : 0 < length (digits_of (drop at s)) = omega arith in
    rw (lt-ltb _ _ p, lt-ltb _ _ l, eq-eqb _ _ (first-at s at p ∙ e))

pub number-plain : {s : List ℕ} {at : ℕ} {n : Number} → Known s at n.value n.next → at < n.next
    → (at + 1 < n.next → get_or s at 0 ≡ 48 → ⊥) → Some n ≡ number_at s at
unfolding number_of
number-plain {s} {at} {n} k h f =
    let l = length (digits_of (drop at s)) in
    let p : 0 < l = omega (arith, k.place) in
    let plain : leading_zero (digits_of (drop at s)) ≡ false =
    by_bool (ltb 1 l)
    (λ (e : ltb 1 l ≡ true). rw (e, first-at s at p, ne_eqb _ _ (f (omega (arith, k.place, ltb-true 1 l e)))))
    (λ (e : ltb 1 l ≡ false). rw e) in
    rw (lt-ltb _ _ p, plain, k.value, k.place, le-leb _ _ k.small)

pub number-over : (s : List ℕ) (at : ℕ) → largest < value_from 0 (digits_of (drop at s)) → None ≡ number_at s at
unfolding number_of
number-over s at h = rw (lt-leb _ _ h, and-false)
