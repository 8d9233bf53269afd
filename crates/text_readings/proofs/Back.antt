-- A printed number is read back. Assumes nothing.
use Prim.Native.Nat.{ℕ, zero, suc, ◌+◌, ◌*◌, ◌-◌, ◌%◌, ◌^◌, ◌≤◌, ◌<◌}
use mathlib.Core.Path.{◌≡◌, refl, sym, ap, ◌∙◌}
use mathlib.Core.Bool.{false, and-false}
use mathlib.Core.List.{List, [], ◌∷◌, ◌++◌, append-nil, append_assoc}
use native.Mathlib.Omega.{arith}
use lib.ListN.{length, drop, get_or, length-append, get_or-append}
use lib.Dec.{lit<}
use borrow.Author.Tests.{lt-ltb, le-leb, ne_eqb}
use Rattle.text_fields.specs.Number.{largest, digits_of, value_from, leading_zero, number_of, number_at}
use Rattle.text_fields.specs.Decimal.{decimal}
use Rattle.std.specs.Prelude.{Some}
use Rattle.text_fields.proofs.Decimal.{decimal-ind, decimal-small}

-- a printed number is all digits
digit-first : (d : ℕ) (rest : List ℕ) → d < 10 → digits_of ((48 + d) ∷ rest) ≡ (48 + d) ∷ digits_of rest
unfolding digits_of
digit-first d rest h =
    let l : 48 ≤ 48 + d = omega arith in
    let k : 48 + d ≤ 57 = omega arith in
    rw (le-leb 48 (48 + d) l, le-leb (48 + d) 57 k)

-- digits, whatever follows them
AllDigits : ℕ → List ℕ → Type 0
AllDigits n t = (rest : List ℕ) → digits_of (t ++ rest) ≡ t ++ digits_of rest

digits-of-decimal : (n : ℕ) → n < 10 ^ 20 → AllDigits n (decimal n)
unfolding AllDigits
digits-of-decimal = decimal-ind AllDigits (λ n h rest. digit-first n rest h) λ n t h ih rest.
    let d : n % 10 < 10 = omega arith in
    ap digits_of (append_assoc t ((48 + n % 10) ∷ []) rest)
    ∙ ih ((48 + n % 10) ∷ rest)
    ∙ ap (λ (l : List ℕ). t ++ l) (digit-first (n % 10) rest d)
    ∙ sym (append_assoc t ((48 + n % 10) ∷ []) (digits_of rest))

-- what it is worth
value-snoc : (v : ℕ) (t : List ℕ) (c : ℕ) → value_from v (t ++ (c ∷ [])) ≡ value_from v t * 10 + (c - 48)
unfolding value_from
value-snoc v [] c = refl
value-snoc v (d ∷ t) c = value-snoc (v * 10 + (d - 48)) t c

one_value : (n : ℕ) → value_from 0 ((48 + n) ∷ []) ≡ n
unfolding value_from
one_value n = omega arith

pub value-of-decimal : (n : ℕ) → n < 10 ^ 20 → value_from 0 (decimal n) ≡ n
value-of-decimal = decimal-ind (λ n t. value_from 0 t ≡ n) (λ n h. one_value n) λ n t h ih. omega (arith, value-snoc 0 t (48 + n % 10), ih)

-- its first digit
Led : ℕ → List ℕ → Type 0
Led n t = (0 < length t) × (0 < n → 48 < get_or t 0 0)

led-decimal : (n : ℕ) → n < 10 ^ 20 → Led n (decimal n)
unfolding Led
led-decimal = decimal-ind Led (λ n h. (omega arith, λ p. omega arith)) λ n t h ih. (
  omega (arith, length-append t ((48 + n % 10) ∷ [])),
  λ p. rw (get_or-append t ((48 + n % 10) ∷ []) 0 0 ih.0) (ih.1 (omega arith)),
)

no-leading-zero : (n : ℕ) → n < 10 ^ 20 → leading_zero (decimal n) ≡ false
unfolding Led
no-leading-zero zero h = rw (decimal-small 0 (lit< tt))
no-leading-zero (suc n) h =
    let l = (led-decimal (suc n) h).1 (omega arith) in
    rw (ne_eqb (get_or (decimal (suc n)) 0 0) 48 (λ e. omega arith), and-false)

-- the decimal text of n, with no digit after it, is the number n
pub number-back : (s : List ℕ) (at n : ℕ) (rest : List ℕ) → drop at s ≡ decimal n ++ rest → n ≤ largest → digits_of rest ≡ []
    → number_at s at ≡ Some (record { value = n; next = at + length (decimal n) })
unfolding number_of Led AllDigits
number-back s at n rest e h d =
    let b : n < 10 ^ 20 = omega arith in
    let t : digits_of (drop at s) ≡ decimal n = ap digits_of e ∙ digits-of-decimal n b rest ∙ rw (d, append-nil) in
    rw (t, lt-ltb 0 (length (decimal n)) (led-decimal n b).0, no-leading-zero n b, value-of-decimal n b, le-leb n largest h)
