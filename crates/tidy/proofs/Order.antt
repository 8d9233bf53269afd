-- The first in the stated order, from the tests before it that fail. Assumes nothing.
use Prim.Native.Nat.{ℕ, zero, suc, ◌+◌, ◌≤◌, ◌<◌}
use mathlib.Core.Path.{◌≡◌, refl, ◌∙◌}
use mathlib.Core.Bool.{Bool, true, false}
use native.Mathlib.Omega.{arith}
use native.Mathlib.Decide.{ℕ_discrete}
use Rattle.scope.specs.Tidy.{rules_from, slots_from}
use Rattle.std.specs.Prelude.{Option, Some, None}

module _ (test : ℕ → ℕ → Bool) where
  rules-none : (left v n : ℕ) (a : Option (ℕ × ℕ)) → ((j : ℕ) → n ≤ j → j < n + left → test v j ≡ false)
      → rules_from test left v n a ≡ a
  unfolding rules_from
  rules-none zero v n a h = refl
  rules-none (suc left) v n a h =
      rw (h n (omega arith) (omega arith)) (rules-none left v (n + 1) a (λ j p q. h j (omega arith) (omega arith)))

  rules-at : (left v n j : ℕ) (a : Option (ℕ × ℕ)) → n ≤ j → j < n + left → ((i : ℕ) → n ≤ i → i < j → test v i ≡ false)
      → test v j ≡ true
      → rules_from test left v n a ≡ Some (v, j)
  unfolding rules_from
  rules-at zero v n j a p q h e = absurd (omega arith)
  rules-at (suc left) v n j a p q h e =
      elim (ℕ_discrete n j) [
        | yes s ↦ rw (s, e) refl
        | no ne ↦ rw (h n (omega arith) (omega arith))
            (rules-at left v (n + 1) j a (omega arith) (omega arith) (λ i o l. h i (omega arith) l) e)
      ]

  -- no rule passes at slot k
  abbrev Fails : ℕ → Type 0
  Fails k = (n : ℕ) → 1 ≤ n → n ≤ 8 → test k n ≡ false

  pub order-none : (left v : ℕ) → ((k : ℕ) → v ≤ k → k < v + left → Fails k) → slots_from test left v ≡ None
  unfolding slots_from
  order-none zero v h = refl
  order-none (suc left) v h =
      rules-none 8 v 1 _ (λ j p q. h v (omega arith) (omega arith) j p (omega arith))
      ∙ order-none left (v + 1) (λ k p q. h k (omega arith) (omega arith))

  pub order-at : (left v k j : ℕ) → v ≤ k → k < v + left → ((i : ℕ) → v ≤ i → i < k → Fails i) → 1 ≤ j → j ≤ 8
      → ((i : ℕ) → 1 ≤ i → i < j → test k i ≡ false) → test k j ≡ true → slots_from test left v ≡ Some (k, j)
  unfolding slots_from
  order-at zero v k j p q h a b g e = absurd (omega arith)
  order-at (suc left) v k j p q h a b g e =
      elim (ℕ_discrete v k) [
        | yes s ↦ rw s (rules-at 8 k 1 j _ a (omega arith) g e)
        | no ne ↦ rules-none 8 v 1 _ (λ i o l. h v (omega arith) (omega arith) i o (omega arith))
            ∙ order-at left (v + 1) k j (omega arith) (omega arith) (λ i o l. h i (omega arith) l) a b g e
      ]
