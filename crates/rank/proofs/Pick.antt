-- The r-th of a list that is put together from two. Assumes nothing.
use Prim.Native.Nat.{ℕ, suc, ◌+◌, ◌-◌, ◌≤◌, ◌<◌}
use mathlib.Core.Path.{◌≡◌, refl, sym, ap, ◌∙◌}
use mathlib.Core.List.{List, ◌∷◌, ◌++◌}
use native.Mathlib.Decide.{dec_le}
use native.Mathlib.Omega.{arith}
use lib.ListN.{length, get_or, length-append, get_or-append}
use lib.Seq.{get_or-append-add, get_or-append_seam}
use borrow.Author.Tests.{le-leb, lt-leb}
use Rattle.scope.proofs.Bools.{never}
use Rattle.scope.specs.Sums.{pick}
use Rattle.std.specs.Prelude.{Result, Ok, Err}

-- a rank on the right side, where `seen` slots stand before that side
abbrev pub after_rank : ℕ → Result ℕ ℕ → Result ℕ ℕ
after_rank seen (Ok k) = Ok k
after_rank seen (Err n) = Err (seen + n)

pick_at : (r : ℕ) (l : List ℕ) → r ≤ length l → pick r l ≡ Ok (get_or l (r - 1) 0)
unfolding pick
pick_at r l h = rw (le-leb r (length l) h) refl

pub pick-past : (r : ℕ) (l : List ℕ) → length l < r → pick r l ≡ Err (length l)
unfolding pick
pick-past r l h = rw (lt-leb r (length l) h) refl

-- how a pick ends: within the list, or past it
at-is : (r : ℕ) (l : List ℕ) (k : ℕ) → pick r l ≡ Ok k → (r ≤ length l) × (get_or l (r - 1) 0 ≡ k)
at-is r l k e =
    elim (dec_le r (length l)) [
      | yes h ↦ (h, cc (pick_at r l h))
      | no h ↦ let p = pick-past r l (omega arith) in never cc
    ]

pub past_is : (r : ℕ) (l : List ℕ) (n : ℕ) → pick r l ≡ Err n → (n ≡ length l) × (n < r)
past_is r l n e =
    elim (dec_le r (length l)) [
      | yes h ↦ let p = pick_at r l h in never cc
      | no h ↦ let i : n ≡ length l = cc (pick-past r l (omega arith)) in (i, omega arith)
    ]

-- a list, one slot, and a list after it
module _ (r : ℕ) (l : List ℕ) (x : ℕ) (rs : List ℕ) (pos : 1 ≤ r) where
  all-length : length (l ++ (x ∷ rs)) ≡ length l + suc (length rs)
  all-length = length-append l (x ∷ rs)

  pub pick-left : (k : ℕ) → pick r l ≡ Ok k → pick r (l ++ (x ∷ rs)) ≡ Ok k
  pick-left k e =
      let p = at-is r l k e in
      pick_at r (l ++ (x ∷ rs)) (omega (arith, all-length))
      ∙ ap Ok (get_or-append l (x ∷ rs) 0 (r - 1) (omega arith) ∙ p.1)

  module _ (n : ℕ) (e : pick r l ≡ Err n) where
    pub pick-here : n + 1 ≡ r → pick r (l ++ (x ∷ rs)) ≡ Ok x
    pick-here i =
        let p = past_is r l n e in
        let j : r - 1 ≡ length l = omega arith in
        pick_at r (l ++ (x ∷ rs)) (omega (arith, all-length))
        ∙ ap Ok (ap (λ (q : ℕ). get_or (l ++ (x ∷ rs)) q 0) j ∙ get_or-append_seam l x rs 0)

    pub pick-after : (n + 1 ≡ r → ⊥) → pick r (l ++ (x ∷ rs)) ≡ after_rank (n + 1) (pick (r - (n + 1)) rs)
    pick-after ne =
        let p = past_is r l n e in
        let i : ℕ = r - (n + 1) in
        elim (dec_le i (length rs)) [
          | yes h ↦
              let j : r - 1 ≡ length l + suc (i - 1) = omega arith in
              pick_at r (l ++ (x ∷ rs)) (omega (arith, all-length))
              ∙ ap Ok (ap (λ (q : ℕ). get_or (l ++ (x ∷ rs)) q 0) j ∙ get_or-append-add l (x ∷ rs) (suc (i - 1)) 0)
              ∙ sym (ap (after_rank (n + 1)) (pick_at i rs h))
          | no h ↦
              pick-past r (l ++ (x ∷ rs)) (omega (arith, all-length)) ∙ ap Err (omega (arith, all-length))
              ∙ sym (ap (after_rank (n + 1)) (pick-past i rs (omega arith)))
        ]
