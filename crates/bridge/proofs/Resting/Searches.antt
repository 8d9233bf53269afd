-- What the searches through slots and rules find: the first of the stated order that passes. Assumes nothing.
use Prim.Native.Nat.{ℕ, zero, suc, ◌+◌, ◌≤◌, ◌<◌}
use mathlib.Core.Path.{◌≡◌, refl, ap, ◌∙◌}
use mathlib.Core.Bool.{Bool, true, false}
use mathlib.Core.List.{List}
use native.Mathlib.Omega.{arith}
use native.Mathlib.Decide.{dec_le, ℕ_discrete}
use lib.Dec.{eqb}
use borrow.Author.Tests.{ne_eqb}
use Rattle.scope.proofs.Bools.{by_bool, neither, never}
use Rattle.scope.specs.Numbers.{rule_of}
use Rattle.scope.specs.Tidy.{by_rule, passes, rules_from, slots_from, next_of}
use Rattle.scope.specs.declared.rule.Rule.{Rule}
use Rattle.bridge.specs.Due.{Due, NotAfter, lower_slot, same_slot}
use Rattle.std.specs.Prelude.{Option, Some, None}

module _ (test : ℕ → ℕ → Bool) where
  -- a search finds nothing where no test passes
  rules-none : (left v n : ℕ) (after : Option (ℕ × ℕ)) → ((i : ℕ) → test v i ≡ false) → rules_from test left v n after ≡ after
  unfolding rules_from
  rules-none zero v n after h = refl
  rules-none (suc left) v n after h = rw (h n) (rules-none left v (n + 1) after h)

  pub slots-none : (left k : ℕ) → ((v n : ℕ) → k ≤ v → v < k + left → test v n ≡ false)
      → slots_from test left k ≡ None
  unfolding slots_from
  slots-none zero k h = refl
  slots-none (suc left) k h =
      rules-none 8 k 1 (slots_from test left (k + 1)) (λ i. h k i (omega arith) (omega arith))
      ∙ slots-none left (k + 1) (λ v n i j. h v n (omega arith) (omega arith))

  -- and what it finds passes
  rules-found : {X : Type 0} (left v n : ℕ) (after : Option (ℕ × ℕ)) (x y : ℕ) → rules_from test left v n after ≡ Some (x, y)
      → (v ≡ x → test x y ≡ true → X) → (after ≡ Some (x, y) → X) → X
  unfolding rules_from
  rules-found zero v n after x y e here on = on e
  rules-found (suc left) v n after x y e here on =
      by_bool (test v n)
      (λ p. let q = simp p at e in
      let o : ◌≡◌ {A = ℕ × ℕ} (v, n) (x, y) = cc in
      let a : v ≡ x = ap (λ (d : ℕ × ℕ). d.0) o in
      let b : n ≡ y = ap (λ (d : ℕ × ℕ). d.1) o in
      here a (rw (← a, ← b) p))
      (λ p. rules-found left v (n + 1) after x y (simp p at e) here on)

  slots-found : (left k x y : ℕ) → slots_from test left k ≡ Some (x, y) → (k ≤ x) × (x < k + left) × (test x y ≡ true)
  unfolding slots_from
  slots-found zero k x y e = never cc
  slots-found (suc left) k x y e =
      rules-found 8 k 1 (slots_from test left (k + 1)) x y e
      (λ q p. (omega arith, omega arith, p))
      (λ q. let h = slots-found left (k + 1) x y q in (omega arith, omega arith, h.2))

  -- and comes first
  rules-first : (left v n : ℕ) (after : Option (ℕ × ℕ)) (x y : ℕ) → rules_from test left v n after ≡ Some (x, y)
      → (i : ℕ) → n ≤ i → i < n + left → test v i ≡ true → (x ≡ v) × (y ≤ i)
  unfolding rules_from
  rules-first zero v n after x y e i a b p = absurd (omega arith)
  rules-first (suc left) v n after x y e i a b p =
      by_bool (test v n)
      (λ h. let q = simp h at e in
      let o : ◌≡◌ {A = ℕ × ℕ} (x, y) (v, n) = cc in
      let f : x ≡ v = ap (λ (d : ℕ × ℕ). d.0) o in
      let g : y ≡ n = ap (λ (d : ℕ × ℕ). d.1) o in
      (f, omega arith))
      (λ h. elim (ℕ_discrete n i) [
        | yes q ↦ neither p (rw (← q) h)
        | no q ↦ rules-first left v (n + 1) after x y (simp h at e) i (omega arith) (omega arith) p
      ])

  slots-first : (left k x y : ℕ) → slots_from test left k ≡ Some (x, y)
      → (v n : ℕ) → k ≤ v → v < k + left → 1 ≤ n → n ≤ 8 → test v n ≡ true → NotAfter x y v n
  unfolding slots_from
  slots-first zero k x y e v n a b i j p = absurd (omega arith)
  slots-first (suc left) k x y e v n a b i j p =
      elim (ℕ_discrete k v) [
        | yes q ↦
            let f = rules-first 8 k 1 (slots_from test left (k + 1)) x y e n i (omega arith) (rw q p) in
            same_slot (f.0 ∙ q) f.1
        | no q ↦ rules-found 8 k 1 (slots_from test left (k + 1)) x y e
            (λ h _. lower_slot (omega arith))
            (λ h. slots-first left (k + 1) x y h v n (omega arith) (omega arith) i j p)
      ]

-- a number that passes is that of a rule
pub known-rule : {X : Type 0} (limited : Bool) (t : List ℕ) (c v : ℕ) (i : Option Rule) → by_rule limited t c v i ≡ true
    → ((r : Rule) → i ≡ Some r → X) → X
known-rule limited t c v None e k = neither e refl
known-rule limited t c v (Some r) e k = k r refl

-- THE RULE THAT IS NEXT is due
pub next-due : (t : List ℕ) (c v n : ℕ) → next_of t c ≡ Some (v, n) → Due t c v n
unfolding next_of passes
next-due t c v n e =
    let f = slots-found (passes true t c) c 1 v n e in
    known-rule true t c v (rule_of n) f.2 (λ r q.
    record { rule = r; is = q; first = f.0; most = omega arith; due = rw q at f.2 })

-- a rule has a number from 1 to 8
no_number : (n : ℕ) → ((i : ℕ) → 1 ≤ i → i ≤ 8 → n ≡ i → ⊥) → rule_of n ≡ None
unfolding rule_of
no_number n h =
    let not : (i : ℕ) → 1 ≤ i → i ≤ 8 → eqb n i ≡ false = λ i a b. ne_eqb n i (h i a b) in
    simp (
      not 1 (omega arith) (omega arith),
      not 2 (omega arith) (omega arith),
      not 3 (omega arith) (omega arith),
      not 4 (omega arith) (omega arith),
      not 5 (omega arith) (omega arith),
      not 6 (omega arith) (omega arith),
      not 7 (omega arith) (omega arith),
      not 8 (omega arith) (omega arith),
    )

rule-number : (n : ℕ) (r : Rule) → rule_of n ≡ Some r → (1 ≤ n) × (n ≤ 8)
rule-number n r e =
    elim (dec_le 1 n) [
      | yes a ↦ elim (dec_le n 8) [
        | yes b ↦ (a, b)
        | no b ↦ let q = no_number n (λ i p q z. omega arith) in never cc
      ]
      | no a ↦ let q = no_number n (λ i p q z. omega arith) in never cc
    ]

-- AND NO OTHER THAT IS DUE COMES BEFORE IT
pub next-first : (t : List ℕ) (c v n : ℕ) → next_of t c ≡ Some (v, n) → (x y : ℕ) → Due t c x y → NotAfter v n x y
unfolding next_of passes
next-first t c v n e x y d =
    let i = rule-number y d.rule d.is in
    slots-first (passes true t c) c 1 v n e x y d.first (omega (arith, d.most)) i.0 i.1 (rw d.is d.due)
