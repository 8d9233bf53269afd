-- A number that is read has one spelling, its decimal text. Assumes nothing.
use Prim.Native.Nat.{ℕ, suc, ◌+◌, ◌*◌, ◌-◌, ◌/◌, ◌%◌, ◌^◌, ◌≤◌, ◌<◌}
use mathlib.Core.Path.{◌≡◌, refl, sym, ap, ◌∙◌}
use mathlib.Core.Bool.{Bool, true, false, ◌&&◌, cond, not, true≢false, and-true}
use mathlib.Core.List.{List, [], ◌∷◌, ◌++◌, append-nil, append_assoc}
use native.Mathlib.Omega.{arith}
use native.Mathlib.Nat.{zero-add}
use lib.ListN.{length, drop}
use lib.Dec.{ltb, leb, eqb}
use borrow.Author.Tests.{leb-true, ltb-true, lt-ltb, eqb-false}
use Rattle.scope.proofs.Bools.{and_l, and_r, not-true, never}
use Rattle.text_fields.specs.Number.{largest, is_digit, digits_of, value_from, leading_zero, spelled, number_of, number_at}
use Rattle.text_fields.specs.Decimal.{decimal}
use Rattle.std.specs.Prelude.{Some, None}
use Rattle.text_fields.specs.declared.number.Number.{Number}
use Rattle.text_fields.proofs.Digits.{value_grows}
use Rattle.text_fields.proofs.Decimal.{decimal-small, decimal_step}

both : (a b : Bool) → (a && b) ≡ true → (a ≡ true) × (b ≡ true)
both a b e = (and_l a b e, and_r a b e)

-- one digit more
decimal-extend : (v c : ℕ) → 0 < v → 48 ≤ c → c ≤ 57 → v * 10 + (c - 48) < 10 ^ 20 → decimal v ++ (c ∷ []) ≡ decimal (v * 10 + (c - 48))
decimal-extend v c p l k b =
    let q : (v * 10 + (c - 48)) / 10 ≡ v = omega arith in
    let m : 48 + (v * 10 + (c - 48)) % 10 ≡ c = omega arith in
    sym (decimal_step (v * 10 + (c - 48)) (omega arith) b ∙ rw (q, m))

only-digits : (l : List ℕ) (v : ℕ) → 0 < v → value_from v (digits_of l) < 10 ^ 20 → decimal v ++ digits_of l ≡ decimal
    (value_from v (digits_of l))
unfolding digits_of value_from
only-digits [] v p b = append-nil (decimal v)
only-digits (c ∷ l) v p b = go (is_digit c) refl (only-digits l (v * 10 + (c - 48))) b
  where
    go : (t : Bool) → is_digit c ≡ t
        → (0 < v * 10 + (c - 48) → value_from (v * 10 + (c - 48)) (digits_of l) < 10 ^ 20
        → decimal (v * 10 + (c - 48)) ++ digits_of l ≡ decimal (value_from (v * 10 + (c - 48)) (digits_of l)))
        → value_from v (cond t (c ∷ digits_of l) []) < 10 ^ 20
        → decimal v ++ cond t (c ∷ digits_of l) [] ≡ decimal (value_from v (cond t (c ∷ digits_of l) []))
    go true e ih b =
        let d = both (leb 48 c) (leb c 57) e in
        let lo = leb-true 48 c d.0 in
        let hi = leb-true c 57 d.1 in
        let n : v * 10 + (c - 48) < 10 ^ 20 = omega (arith, value_grows (v * 10 + (c - 48)) (digits_of l), b) in
        sym (append_assoc (decimal v) (c ∷ []) (digits_of l))
        ∙ ap (λ (t : List ℕ). t ++ digits_of l) (decimal-extend v c p lo hi n)
        ∙ ih (omega arith) b
    go false e ih b = append-nil (decimal v)

only-text : (l t : List ℕ) → t ≡ digits_of l → (v : ℕ) → 0 < v → value_from v t < 10 ^ 20 → decimal v ++ t ≡ decimal (value_from v t)
only-text l t q v p b = rw q (only-digits l v p (rw q at b))

value-one : (c : ℕ) (t : List ℕ) → value_from 0 (c ∷ t) ≡ value_from (c - 48) t
unfolding value_from
value-one c t = ap (λ (v : ℕ). value_from v t) (zero-add (c - 48))

-- digits with no leading zero are the decimal text of what they are worth
text-only : (l : List ℕ) → 0 < length (digits_of l) → leading_zero (digits_of l) ≡ false → value_from 0 (digits_of l) < 10 ^ 20
    → digits_of l ≡ decimal (value_from 0 (digits_of l))
unfolding digits_of value_from
text-only [] h z b = absurd (omega arith)
text-only (c ∷ l) h z b = go (is_digit c) refl h z b
  where
    one : 48 ≤ c → c ≤ 57 → c ∷ [] ≡ decimal (c - 48)
    one lo hi =
        let e : 48 + (c - 48) ≡ c = omega arith in
        sym (decimal-small (c - 48) (omega arith) ∙ rw e)

    led : (t : List ℕ) → t ≡ digits_of l → (k : Bool) → eqb c 48 ≡ k → 48 ≤ c → c ≤ 57 → (ltb 1 (suc (length t)) && k) ≡ false
        → value_from (c - 48) t < 10 ^ 20 → c ∷ t ≡ decimal (value_from (c - 48) t)
    led [] q k e lo hi z b = one lo hi
    led (d ∷ t) q false e lo hi z b =
        let p : 0 < c - 48 = go48 (eqb-false c 48 e) in
        ap (λ (u : List ℕ). u ++ (d ∷ t)) (one lo hi) ∙ only-text l (d ∷ t) q (c - 48) p b
      where
        go48 : (c ≡ 48 → ⊥) → 0 < c - 48
        go48 f = omega arith
    led (d ∷ t) q true e lo hi z b = absurd (true≢false
        (sym (lt-ltb 1 (suc (suc (length t))) (omega arith)) ∙ (sym (and-true (ltb 1 (suc (suc (length t))))) ∙ z)))

    go : (t : Bool) → is_digit c ≡ t → 0 < length (cond t (c ∷ digits_of l) []) → leading_zero (cond t (c ∷ digits_of l) []) ≡ false
        → value_from 0 (cond t (c ∷ digits_of l) []) < 10 ^ 20
        → cond t (c ∷ digits_of l) [] ≡ decimal (value_from 0 (cond t (c ∷ digits_of l) []))
    go true e h z b =
        let d = both (leb 48 c) (leb c 57) e in
        let w = value-one c (digits_of l) in
        led (digits_of l) refl (eqb c 48) refl (leb-true 48 c d.0) (leb-true c 57 d.1) z (omega (arith, w, b)) ∙ ap decimal (sym w)
    go false e h z b = absurd (omega arith)

-- a number that is read is its decimal text, and the place after it follows the text
pub number-only : (s : List ℕ) (at : ℕ) (n : Number) → Some n ≡ number_at s at →
    (n.value ≤ largest) × (digits_of (drop at s) ≡ decimal n.value) × (n.next ≡ at + length (decimal n.value))
unfolding number_of
number-only s at n e = go (digits_of (drop at s)) (text-only (drop at s)) e
  where
    go : (t : List ℕ) → (0 < length t → leading_zero t ≡ false → value_from 0 t < 10 ^ 20 → t ≡ decimal (value_from 0 t))
        → Some n ≡ cond (ltb 0 (length t) && not (leading_zero t) && leb (value_from 0 t) largest) (Some (spelled at t)) None
        → (n.value ≤ largest) × (t ≡ decimal n.value) × (n.next ≡ at + length (decimal n.value))
    go t only e = pick (ltb 0 (length t) && not (leading_zero t) && leb (value_from 0 t) largest) refl e
      where
        pick : (b : Bool) → (ltb 0 (length t) && not (leading_zero t) && leb (value_from 0 t) largest) ≡ b
            → Some n ≡ cond b (Some (spelled at t)) None
            → (n.value ≤ largest) × (t ≡ decimal n.value) × (n.next ≡ at + length (decimal n.value))
        pick false q e = never cc
        pick true q e =
            let d = both (ltb 0 (length t) && not (leading_zero t)) (leb (value_from 0 t) largest) q in
            let f = both (ltb 0 (length t)) (not (leading_zero t)) d.0 in
            let r : n ≡ spelled at t = cc in
            let small = leb-true (value_from 0 t) largest d.1 in
            let x : t ≡ decimal (value_from 0 t) =
            only (ltb-true 0 (length t) f.0) (not-true (leading_zero t) f.1) (omega arith) in
            rw r (small, x, ap (λ (u : List ℕ). at + length u) x)
