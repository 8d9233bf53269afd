-- A word that a text begins with. Assumes nothing.
use Rattle.std.proofs.Common.{◌≡◌, ℕ, ◌≤◌, true, false, eqb, List, [], ◌∷◌, ◌++◌, length, take, drop, refl, sym, arith}
use Rattle.std.specs.Cmp.Lexicographic.{pointwise}
use Rattle.std.proofs.lemmas.Bool.Decides.{nat_tests, Decides-eqb}
use Rattle.std.proofs.lemmas.Slice.Eq.{starts_is}
use Rattle.scope.proofs.Bools.{and_r, by_bool, never}
use Rattle.text_fields.specs.Text.{starts_with}

eqb-comm : (a b : ℕ) → eqb a b ≡ eqb b a
eqb-comm a b = grind (arith, nat_tests)

-- what `starts_with` of a slice says
pub starts-same : (w s : List ℕ) → pointwise eqb w (take (length w) s) ≡ starts_with w s
unfolding starts_with
starts-same [] s = refl
starts-same (c ∷ w) [] = refl
starts-same (c ∷ w) (d ∷ s) = rw (starts-same w s, eqb-comm c d)

-- a word that s begins with is no longer than s
pub starts-fits : (w s : List ℕ) → starts_with w s ≡ true → length w ≤ length s
unfolding starts_with
starts-fits [] s e = omega arith
starts-fits (c ∷ w) [] e = never cc
starts-fits (c ∷ w) (d ∷ s) e = omega (arith, starts-fits w s (and_r (eqb d c) (starts_with w s) e))

-- a text begins with a word, and is it and what stands behind it, or does not
pub begins-or-not : {P : Type 0} (w s : List ℕ) → (s ≡ w ++ drop (length w) s → P) → (starts_with w s ≡ false → P) → P
begins-or-not w s f g = by_bool (starts_with w s) (λ p. f ((starts_is Decides-eqb s w _ (sym (starts-same w s))).0 p)) g
