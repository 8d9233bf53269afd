-- The first line of an input, as `line_length` finds it. Assumes nothing.
use Rattle.std.proofs.Common.{◌≡◌, ℕ, ◌+◌, ◌≤◌, Bool, true, false, cond, eqb, List, [], ◌∷◌, length, refl, sym, arith}
use Rattle.std.proofs.Common.{ltb, Some, None, unwrap_or}
use Rattle.std.specs.List.{position, position_or_len}
use Rattle.std.proofs.lemmas.List.Recursion.{is_position_or_len}
use borrow.Author.Tests.{ltb-false}
use Rattle.scope.proofs.Bools.{by_bool}
use Rattle.text_fields.specs.Text.{first_line}

line-position : (s : List ℕ) → length (first_line s) ≡ position_or_len (λ c. eqb c 10) s
unfolding first_line
line-position = is_position_or_len (λ s. length (first_line s)) (λ c. eqb c 10) refl step
  where
    step : (c : ℕ) (s : List ℕ) → length (cond (eqb c 10) [] (c ∷ first_line s)) ≡ cond (eqb c 10) 0 (1 + length (first_line s))
    step c s = by_bool (eqb c 10) (λ (e : eqb c 10 ≡ true). rw e refl) (λ (e : eqb c 10 ≡ false). rw e (omega arith))

pub line-within : (s : List ℕ) → length (first_line s) ≤ length s
unfolding first_line
line-within [] = omega arith
line-within (c ∷ s) =
    by_bool (eqb c 10) (λ (e : eqb c 10 ≡ true). rw e (omega arith))
    (λ (e : eqb c 10 ≡ false). rw e (omega (arith, line-within s)))

pub line-found : (s : List ℕ) → unwrap_or (position (λ c. eqb c 10) s) (length s) ≡ length (first_line s)
line-found s = go (ltb (position_or_len (λ c. eqb c 10) s) (length s)) refl
  where
    go : (b : Bool) → ltb (position_or_len (λ c. eqb c 10) s) (length s) ≡ b
        → unwrap_or (cond b (Some (position_or_len (λ c. eqb c 10) s)) None) (length s) ≡ length (first_line s)
    go true e = sym (line-position s)
    go false e = omega (arith, line-position s, line-within s, ltb-false _ _ e)
