-- The rules that tidy fires are as many as it counts. Assumes nothing.
use Prim.Native.Nat.{ℕ, zero, suc, ◌+◌}
use mathlib.Core.Path.{◌≡◌}
use mathlib.Core.List.{List, [], ◌∷◌}
use native.Mathlib.Omega.{arith}
use lib.ListN.{length}
use Rattle.std.specs.Prelude.{Option, Some, None}
use Rattle.scope.specs.Tidy.{next_of, fired_at, on_next, tidy_from, rule_next, rules_fired}

pub fired-counted : (left c : ℕ) (t : List ℕ) (made : ℕ) → (tidy_from left c t made).fired ≡ made + length (rules_fired left c t)
unfolding tidy_from rules_fired
fired-counted zero c t made = omega arith
fired-counted (suc left) c t made =
    by_next (next_of t c) (λ v n. fired-counted left c (fired_at t c v n) (made + 1))
  where
    by_next : (x : Option (ℕ × ℕ))
        → ((v n : ℕ) → (tidy_from left c (fired_at t c v n) (made + 1)).fired ≡ made + 1 + length (rules_fired left c (fired_at t c v n)))
        → (on_next x (record { fired = made; words = t }) (λ v n. tidy_from left c (fired_at t c v n) (made + 1))).fired
        ≡ made + length (rule_next x [] (λ v n. n ∷ rules_fired left c (fired_at t c v n)))
    by_next None h = omega arith
    by_next (Some (v, n)) h = omega (arith, h v n)
