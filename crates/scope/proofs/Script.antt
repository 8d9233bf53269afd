-- Short words for the examples: a fresh table, calls, what of their answers is looked at, and a table of examples. Assumes nothing.
use Prim.Native.Nat.{ℕ}
use mathlib.Core.Path.{◌≡◌, refl}
use mathlib.Core.Bool.{Bool, true, false, ◌&&◌}
use mathlib.Core.List.{List, [], ◌∷◌, map}
use lib.ListN.{replicate, take, drop}
use lib.Dec.{eqb}
use borrow.Author.Tests.{eqb-true}
use Rattle.scope.proofs.Bools.{and_l, and_r, never}
use Rattle.scope.specs.Calls.{Call, Post, answers}
use Rattle.scope.specs.Table.{head_words, slot_words, table_words, base}
use Rattle.scope.specs.declared.answer.Answer.{Answer}

-- a started table of c slots
abbrev pub fresh : ℕ → List ℕ
fresh c = replicate (table_words c) 0

-- one piece poured at each of the stamps
abbrev pub poured : List ℕ → List Call
poured ks = map (λ k. Post k 1 1) ks

-- the five numbers of an answer, one answer after the other
abbrev pub five : List Answer → List ℕ
five [] = []
five (a ∷ rest) = a.code ∷ a.change ∷ a.value ∷ a.more ∷ a.kind ∷ five rest

abbrev pub fives : List Call → List ℕ → List ℕ
fives xs t = five (answers xs t)

-- only the codes, or only the values
abbrev pub codes : List Call → List ℕ → List ℕ
codes xs t = map (λ a. a.code) (answers xs t)

abbrev pub values : List Call → List ℕ → List ℕ
values xs t = map (λ a. a.value) (answers xs t)

-- the words of a header; of a slot, whose last word is 0; and of a blank slot
abbrev pub head_of : ℕ → ℕ → ℕ → ℕ → List ℕ
head_of root count change last = root ∷ count ∷ change ∷ last ∷ []

abbrev pub words_of : ℕ → ℕ → ℕ → ℕ → ℕ → ℕ → ℕ → List ℕ
words_of state key pieces left right lefth righth = state ∷ key ∷ pieces ∷ left ∷ right ∷ lefth ∷ righth ∷ 0 ∷ []

abbrev pub blank : List ℕ
blank = replicate slot_words 0

-- the header, and the words of slot k
abbrev pub header : List ℕ → List ℕ
header t = take head_words t

abbrev pub slot : ℕ → List ℕ → List ℕ
slot k t = take slot_words (drop (base k) t)

-- one line of a table of examples: what the definitions give, and what is to come out
pub record Row : Type 0 where
  pub given : List ℕ
  pub stated : List ℕ

abbrev pub row : List ℕ → List ℕ → Row
row g s = record { given = g; stated = s }

-- two lists of numbers are the same; so are the two of every row
abbrev pub same_list : List ℕ → List ℕ → Bool
same_list [] [] = true
same_list [] (y ∷ ys) = false
same_list (x ∷ xs) [] = false
same_list (x ∷ xs) (y ∷ ys) = eqb x y && same_list xs ys

abbrev pub agree : List Row → Bool
agree [] = true
agree (r ∷ rs) = same_list r.given r.stated && agree rs

same-list : (xs ys : List ℕ) → same_list xs ys ≡ true → xs ≡ ys
same-list [] [] e = refl
same-list [] (y ∷ ys) e = never cc
same-list (x ∷ xs) [] e = never cc
same-list (x ∷ xs) (y ∷ ys) e =
    let p = eqb-true x y (and_l _ _ e) in let q = same-list xs ys (and_r (eqb x y) _ e) in cc

-- a table that agrees by computing holds row by row
pub rows : (rs : List Row) → agree rs ≡ true → map (λ r. r.given) rs ≡ map (λ r. r.stated) rs
rows [] e = refl
rows (r ∷ rs) e =
    let p = same-list r.given r.stated (and_l _ _ e) in let q = rows rs (and_r (same_list r.given r.stated) _ e) in cc
