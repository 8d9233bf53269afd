-- A call that always answers the same, writes nothing or refuses everything does not meet its promise. Assumes nothing.
use Prim.Native.Nat.{ℕ}
use mathlib.Core.Path.{◌≡◌, refl, ◌∙◌, ap}
use mathlib.Core.List.{List, [], map}
use native.Mathlib.Omega.{arith}
use lib.ListN.{get_or}
use Rattle.scope.specs.Table.{word, count_word}
use Rattle.scope.specs.Answers.{refusal}
use Rattle.scope.specs.Calls.{Find, Post, Fire, Tidy, Promise, table_of, answers}
use Rattle.scope.specs.declared.answer.Answer.{Answer}
use Rattle.scope.specs.declared.answer.Refusal.{Refusal}
use Rattle.scope.proofs.Script.{Row}
use Rattle.scope.proofs.Bites.{none_yet, one, two, three, right_of, bites}
use Rattle.scope.proofs.Computed.{computed}

-- the first number of a row of examples, and what it comes to
abbrev first : (Row → List ℕ) → ℕ → ℕ
first side i = get_or (get_or (map side bites) i []) 0 0

bite : (i : ℕ) → first (λ r. r.given) i ≡ first (λ r. r.stated) i
bite i = ap (λ (ls : List (List ℕ)). get_or (get_or ls i []) 0 0) computed.bites_hold

abbrev answer_code : Answer → ℕ
answer_code a = a.code

-- a find with one fixed reply
pub no-fixed-find : (r : Answer) → Promise (Find 5) none_yet r none_yet → Promise (Find 5) one r one → ⊥
unfolding answers
no-fixed-find r p q = omega (arith, bite 0, bite 1, ap answer_code p.0, ap answer_code q.0)

-- a post that writes nothing
pub no-idle-post : (r : Answer) → Promise (Post 5 1 1) none_yet r none_yet → ⊥
no-idle-post r p =
    let before : word none_yet count_word ≡ 0 = refl in
    omega (arith, bite 2, ap (λ (u : List ℕ). word u count_word) p.1)

-- a fire that refuses everything
pub no-refusing-fire : (why : Refusal) (u : List ℕ) → ((refusal why).code ≡ 0 → ⊥)
    → Promise (Fire 2 0 0) two (refusal why) u → ⊥
unfolding answers
no-refusing-fire why u ne p = ne (ap answer_code p.0 ∙ bite 3)

-- a fire that writes nothing
pub no-idle-fire : (r : Answer) → Promise (Fire 2 0 0) two r two → ⊥
no-idle-fire r p = omega (arith, bite 4, bite 5, ap (right_of 1) p.1)

-- a tidy that fires once and then only counts
pub no-counting-tidy : (r : Answer) → Promise (Tidy 2) three r (table_of (Tidy 1) three) → ⊥
no-counting-tidy r p = omega (arith, bite 6, bite 7, ap (right_of 2) p.1)
