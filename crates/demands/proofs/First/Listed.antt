-- Demand 1: every call is accepted, or refused with a listed code and every word as it was; four zeros go with the code, or,
-- where a key is absent, the last keys passed. Assumes nothing.
use Prim.Native.Nat.{ℕ}
use mathlib.Core.Path.{◌≡◌, refl, sym, ◌∙◌, ap, subst}
use mathlib.Core.Bool.{true}
use mathlib.Core.Option.{some}
use mathlib.Core.List.{List, [], ◌∷◌, ◌++◌}
use native.Mathlib.Omega.{arith}
use lib.Dec.{eqb}
use Rattle.scope.proofs.Bools.{or-on, never}
use Rattle.scope.specs.Table.{word, change_word}
use Rattle.scope.specs.Answers.{Done, code_of, accepted, refusal, absence}
use Rattle.scope.specs.Sound.{tree_in}
use Rattle.scope.specs.Sums.{check_answer, total_of, total_answer}
use Rattle.scope.specs.Worth.{worth_of, worth_answer}
use Rattle.scope.specs.Calls.{Call, Start, Check, Find, Post, Amend, Drop, Rank, Total, Worth, Fire, Tidy, answer_of, table_of}
use Rattle.scope.specs.declared.answer.Answer.{Answer}
use Rattle.scope.specs.declared.answer.Refusal.{Refusal}
use Rattle.scope.specs.declared.answer.Refusal.TheVariants.{KeyAbsent}
use Rattle.demands.specs.Listed.{needs, codes_bare, code_for_key, codes_listed, among, Refuses, only_code, LacksKey, Misses, CarriesPassed}
use Rattle.demands.specs.Listed.{Answered, accepts, refuses, lacks}
use Rattle.demands.proofs.First.Refusals.{start-answered, whole-answered, tidy-answered, rank-answered}
use Rattle.demands.proofs.First.Refusals.{find-answered, post-answered, amend-answered, drop-answered}
use Rattle.demands.proofs.First.FireRefusals.{fire-answered}

-- DEMAND 1: every call, for any words and arguments
pub answered : (x : Call) (t : List ℕ) → Answered x t (record { answer = answer_of x t; words = table_of x t })
unfolding check_answer total_answer worth_answer
answered Start t = start-answered t
answered Check t = whole-answered t Check refl refl (λ c. accepted (word t change_word) 0 0 0) (λ c. refl)
answered (Find key) t = find-answered t key
answered (Post key pieces state) t = post-answered t key pieces state
answered (Amend key pieces state) t = amend-answered t key pieces state
answered (Drop key) t = drop-answered t key
answered (Rank r) t = rank-answered t r
answered (Total K) t =
    whole-answered t (Total K) refl refl (λ c. accepted (word t change_word) (total_of K (tree_in t c)) 0 0) (λ c. refl)
answered Worth t = whole-answered t Worth refl refl (λ c. accepted (word t change_word) (worth_of (tree_in t c)) 0 0) (λ c. refl)
answered (Fire rule holder side) t = fire-answered t rule holder side
answered (Tidy budget) t = tidy-answered t budget

-- a code past the first part of a list is in it too
among-past : (n : ℕ) (xs ys : List ℕ) → among n ys ≡ true → among n (xs ++ ys) ≡ true
among-past n [] ys h = h
among-past n (x ∷ xs) ys h = or-on (eqb n x) _ (among-past n xs ys h)

-- a call that needs a key gives no 5 with four zeros
no-bare-5 : (x : Call) (key n : ℕ) → needs x ≡ some key → n ≡ code_of KeyAbsent → among n (codes_bare x) ≡ true → ⊥
no-bare-5 (Find k) key n e five h = let g = rw five at h in never cc
no-bare-5 (Amend k pieces state) key n e five h = let g = rw five at h in never cc
no-bare-5 (Drop k) key n e five h = let g = rw five at h in never cc
no-bare-5 Start key n e five h = never cc
no-bare-5 Check key n e five h = never cc
no-bare-5 (Post k pieces state) key n e five h = never cc
no-bare-5 (Rank r) key n e five h = never cc
no-bare-5 (Total K) key n e five h = never cc
no-bare-5 Worth key n e five h = never cc
no-bare-5 (Fire rule holder side) key n e five h = never cc
no-bare-5 (Tidy budget) key n e five h = never cc

abbrev code_in : Answer → ℕ
code_in a = a.code

module _ (x : Call) (t : List ℕ) where
  -- accepted, refused with four zeros, or lacking its key; and then every word is as it was
  module _ {X : Type 0} (taken : (answer_of x t).code ≡ 0 → X)
      (bare : (why : Refusal) → answer_of x t ≡ refusal why → table_of x t ≡ t → among (code_of why) (codes_bare x) ≡ true → X)
      (lacking-key : (key : ℕ) → needs x ≡ some key → (m : Misses t key) → answer_of x t ≡ absence m.passed
      → table_of x t ≡ t → X) where
    says : (d : Done) → d ≡ record { answer = answer_of x t; words = table_of x t } → Answered x t d → X
    says d e (accepts z) = taken (ap (λ (y : Done). y.answer.code) (sym e) ∙ z)
    says d e (refuses why l) = bare why (ap (λ (y : Done). y.answer) (sym e)) (ap (λ (y : Done). y.words) (sym e)) l
    says d e (lacks key n m) = lacking-key key n m (ap (λ (y : Done). y.answer) (sym e)) (ap (λ (y : Done). y.words) (sym e))

    by_answer : X
    by_answer = says (record { answer = answer_of x t; words = table_of x t }) refl (answered x t)

  -- every code is 0 or listed
  pub code-listed : among (answer_of x t).code (0 ∷ codes_listed x) ≡ true
  code-listed =
      by_answer
      (λ z. rw z refl)
      (λ why e u l. subst (λ (n : ℕ). among n (0 ∷ codes_listed x) ≡ true) (sym (ap code_in e))
      (or-on (eqb (code_of why) 0) _ (among-past (code_of why) (code_for_key (needs x)) (codes_bare x) l)))
      (λ key n m e u. subst (λ (k : ℕ). among k (0 ∷ codes_listed x) ≡ true) (sym (ap code_in e)) (rw n refl))

  -- every refusal has four zeros after its code, but 5 for a key
  pub refused-zeros : Refuses x t → (LacksKey x t → ⊥) → answer_of x t ≡ only_code (answer_of x t)
  refused-zeros ne has =
      by_answer
      (λ z. absurd (ne z))
      (λ why e u l. rw e refl)
      (λ key n m e u. absurd (has (record { key = key; needed = n; five = ap code_in e })))

  -- which has the last keys passed
  pub lacks-passed : (l : LacksKey x t) → CarriesPassed t l.key (answer_of x t)
  lacks-passed l =
      by_answer
      (λ z. absurd (omega (arith, z, l.five)))
      (λ why e u g. absurd (no-bare-5 x l.key (code_of why) l.needed (sym (ap code_in e) ∙ l.five) g))
      (λ key n m e u. let same : key ≡ l.key = cc (sym n ∙ l.needed) in rw (← same) (record { misses = m; is = e }))

  -- every refusal leaves every word
  pub refused-words : Refuses x t → table_of x t ≡ t
  refused-words ne = by_answer (λ z. absurd (ne z)) (λ why e u l. u) (λ key n m e u. u)
