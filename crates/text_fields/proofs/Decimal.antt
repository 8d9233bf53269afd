-- Laws of decimal text. Assumes nothing.
use Prim.Native.Nat.{ℕ, zero, suc, ◌+◌, ◌/◌, ◌%◌, ◌^◌, ◌≤◌, ◌<◌}
use mathlib.Core.Path.{◌≡◌, refl, ap, ◌∙◌}
use mathlib.Core.Bool.{Bool, true, false, cond}
use mathlib.Core.List.{List, [], ◌∷◌, ◌++◌}
use native.Mathlib.Omega.{arith}
use native.Mathlib.Nat.{pow-suc, div-lt_iff_lt-mul}
use lib.ListN.{length, length-append}
use lib.Dec.{ltb, lit<}
use borrow.Author.Tests.{lt-ltb, le-ltb, ltb-true, ltb-false}
use Rattle.text_fields.specs.Decimal.{decimal_in, decimal}

-- what holds of one digit, and of n where it holds of n / 10, holds of every number that k + 1 digits hold
decimal-in-ind : (P : ℕ → List ℕ → Type 0)
    → ((n : ℕ) → n < 10 → P n ((48 + n) ∷ []))
    → ((n : ℕ) (t : List ℕ) → 10 ≤ n → P (n / 10) t → P n (t ++ ((48 + n % 10) ∷ [])))
    → (k n : ℕ) → n < 10 ^ suc k → P n (decimal_in (suc k) n)
unfolding decimal_in
decimal-in-ind P one more zero n h =
    let l : n < 10 = h in
    rw (lt-ltb n 10 l) (one n l)
decimal-in-ind P one more (suc k) n h = go (ltb n 10) refl (decimal-in-ind P one more k (n / 10))
  where
    go : (b : Bool) → ltb n 10 ≡ b → (n / 10 < 10 ^ suc k → P (n / 10) (decimal_in (suc k) (n / 10)))
        → P n (cond b ((48 + n) ∷ []) (decimal_in (suc k) (n / 10) ++ ((48 + n % 10) ∷ [])))
    go true e ih = one n (ltb-true n 10 e)
    go false e ih = more n (decimal_in (suc k) (n / 10)) (ltb-false n 10 e) (ih ((div-lt_iff_lt-mul (lit< tt)).1 (rw pow-suc at h)))

pub decimal-ind : (P : ℕ → List ℕ → Type 0)
    → ((n : ℕ) → n < 10 → P n ((48 + n) ∷ []))
    → ((n : ℕ) (t : List ℕ) → 10 ≤ n → P (n / 10) t → P n (t ++ ((48 + n % 10) ∷ [])))
    → (n : ℕ) → n < 10 ^ 20 → P n (decimal n)
unfolding decimal
decimal-ind P one more n h = decimal-in-ind P one more 19 n h

-- one more digit than is needed changes nothing
decimal-in-more : (k n : ℕ) → n < 10 ^ suc k → decimal_in (suc k) n ≡ decimal_in (suc (suc k)) n
unfolding decimal_in
decimal-in-more zero n h =
    let l : n < 10 = h in
    rw (lt-ltb n 10 l)
decimal-in-more (suc k) n h =
    ap (λ (t : List ℕ). cond (ltb n 10) ((48 + n) ∷ []) (t ++ ((48 + n % 10) ∷ [])))
    (decimal-in-more k (n / 10) ((div-lt_iff_lt-mul (lit< tt)).1 (rw pow-suc at h)))

pub decimal-small : (n : ℕ) → n < 10 → decimal n ≡ (48 + n) ∷ []
unfolding decimal decimal_in
decimal-small n h = rw (lt-ltb n 10 h)

decimal-in-step : (k n : ℕ) → 10 ≤ n → decimal_in (suc k) n ≡ decimal_in k (n / 10) ++ ((48 + n % 10) ∷ [])
unfolding decimal_in
decimal-in-step k n h = rw (le-ltb n 10 h)

pub decimal_step : (n : ℕ) → 10 ≤ n → n < 10 ^ 20 → decimal n ≡ decimal (n / 10) ++ ((48 + n % 10) ∷ [])
unfolding decimal
decimal_step n h l =
    decimal-in-step 19 n h ∙ ap (λ (t : List ℕ). t ++ ((48 + n % 10) ∷ [])) (decimal-in-more 18 (n / 10) (omega arith))

decimal-in-length : (k n : ℕ) → length (decimal_in k n) ≤ k
unfolding decimal_in
decimal-in-length zero n = omega arith
decimal-in-length (suc k) n = go (ltb n 10) (decimal-in-length k (n / 10))
  where
    go : (b : Bool) → length (decimal_in k (n / 10)) ≤ k → length
        (cond b ((48 + n) ∷ []) (decimal_in k (n / 10) ++ ((48 + n % 10) ∷ []))) ≤ suc k
    go true h = omega arith
    go false h = omega (arith, length-append (decimal_in k (n / 10)) ((48 + n % 10) ∷ []))

pub decimal-length : (n : ℕ) → length (decimal n) ≤ 20
unfolding decimal
decimal-length n = decimal-in-length 20 n

pub decimal-step-length : (n : ℕ) → 10 ≤ n → n < 10 ^ 20 → length (decimal n) ≡ length (decimal (n / 10)) + 1
decimal-step-length n h l = ap length (decimal_step n h l) ∙ length-append (decimal (n / 10)) ((48 + n % 10) ∷ [])

-- a number of 32 bits has at most ten digits
Short : ℕ → List ℕ → Type 0
Short n t = (k : ℕ) → n < 10 ^ suc k → length t ≤ suc k

short-decimal : (n : ℕ) → n < 10 ^ 20 → Short n (decimal n)
unfolding Short
short-decimal = decimal-ind Short (λ n h k l. omega arith) λ n t h ih k l. go n t h ih k l
  where
    go : (n : ℕ) (t : List ℕ) → 10 ≤ n → ((k : ℕ) → n / 10 < 10 ^ suc k → length t ≤ suc k)
        → (k : ℕ) → n < 10 ^ suc k → length (t ++ ((48 + n % 10) ∷ [])) ≤ suc k
    go n t h ih zero l = let z : n < 10 = l in absurd (omega arith)
    go n t h ih (suc k) l = omega (arith, ih k ((div-lt_iff_lt-mul (lit< tt)).1 (rw pow-suc at l)), length-append t ((48 + n % 10) ∷ []))

pub decimal-short : (n : ℕ) → n ≤ 4294967295 → length (decimal n) ≤ 10
unfolding Short
decimal-short n h = short-decimal n (omega arith) 9 (omega arith)
