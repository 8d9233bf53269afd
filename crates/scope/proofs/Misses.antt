-- Examples of misses: code 5 for a key carries the last keys passed, which on a sound table are its neighbours. Assumes nothing.
use Prim.Native.Nat.{ℕ}
use mathlib.Core.List.{List, [], ◌∷◌, ◌++◌}
use Rattle.scope.specs.Calls.{Call, Check, Find, Post, Amend, Drop, Rank, after}
use Rattle.scope.proofs.Script.{fresh, poured, fives, head_of, words_of, Row, row}
use Rattle.scope.proofs.Further.{four}

-- a key asked for by each of the three calls that need it
abbrev asked : ℕ → List Call
asked key = Find key ∷ Amend key 1 1 ∷ Drop key ∷ []

-- what all three answer where the walk passed these two keys last
abbrev passed_last : ℕ → ℕ → List ℕ
passed_last below above =
    5 ∷ 0 ∷ below ∷ above ∷ 0
    ∷ 5 ∷ 0 ∷ below ∷ above ∷ 0
    ∷ 5 ∷ 0 ∷ below ∷ above ∷ 0
    ∷ []

-- keys out of order: 60 hangs on the left of 40, and 30 on its right
abbrev astray : List ℕ
astray = head_of 1 3 6 0 ++ (words_of 1 40 9 3 2 0 0 ++ (words_of 1 30 8 0 0 0 0 ++ words_of 1 60 7 0 0 0 0))

-- 70, 20 on its left, 90 on the right of that, and 30 on the left of that: the way turns back and forth
abbrev winding : List ℕ
winding =
    head_of 1 4 6 0
    ++ (words_of 1 70 9 2 0 0 0 ++ (words_of 1 20 8 0 3 0 0 ++ (words_of 1 90 7 4 0 0 0 ++ words_of 1 30 6 0 0 0 0)))

abbrev pub misses : List Row
misses =
    -- an empty table has no neighbours
    row (fives (asked 5) (fresh 2)) (passed_last 0 0)
    -- one record: below it, above it, and next to it
    ∷ row (fives (asked 1) (after (poured (40 ∷ [])) (fresh 2))) (passed_last 0 40)
    ∷ row (fives (asked 39) (after (poured (40 ∷ [])) (fresh 2))) (passed_last 0 40)
    ∷ row (fives (asked 41) (after (poured (40 ∷ [])) (fresh 2))) (passed_last 40 0)
    ∷ row (fives (asked 4294967295) (after (poured (40 ∷ [])) (fresh 2))) (passed_last 40 0)
    -- 20, 40, 50 and 60: below all, between two and next to each, above all
    ∷ row (fives (asked 1) four) (passed_last 0 20)
    ∷ row (fives (asked 19) four) (passed_last 0 20)
    ∷ row (fives (asked 21) four) (passed_last 20 40)
    ∷ row (fives (asked 39) four) (passed_last 20 40)
    ∷ row (fives (asked 41) four) (passed_last 40 50)
    ∷ row (fives (asked 49) four) (passed_last 40 50)
    ∷ row (fives (asked 51) four) (passed_last 50 60)
    ∷ row (fives (asked 55) four) (passed_last 50 60)
    ∷ row (fives (asked 59) four) (passed_last 50 60)
    ∷ row (fives (asked 61) four) (passed_last 60 0)
    ∷ row (fives (asked 4294967295) four) (passed_last 60 0)
    -- a stamp that was dropped is missed between those that stay; a miss leaves every word
    ∷ row (fives (Drop 50 ∷ Find 50 ∷ Drop 50 ∷ Find 40 ∷ []) four)
    (0 ∷ 5 ∷ 4 ∷ 0 ∷ 0
    ∷ 5 ∷ 0 ∷ 40 ∷ 60 ∷ 0
    ∷ 5 ∷ 0 ∷ 40 ∷ 60 ∷ 0
    ∷ 0 ∷ 5 ∷ 1 ∷ 1 ∷ 1
    ∷ [])
    ∷ row (after (asked 55) four) four
    -- a post answers as ever where the walk misses, accepted or not; a rank past the count has four zeros
    ∷ row (fives (Post 30 1 1 ∷ []) (after (poured (40 ∷ [])) (fresh 2))) (0 ∷ 2 ∷ 2 ∷ 0 ∷ 0 ∷ [])
    ∷ row (fives (Post 55 1 1 ∷ Rank 5 ∷ []) four) (6 ∷ 0 ∷ 0 ∷ 0 ∷ 0 ∷ 5 ∷ 0 ∷ 0 ∷ 0 ∷ 0 ∷ [])
    -- keys out of order: the walk to 50 passes 40 and then 30, and never 60; the one to 35 passes 60 after 40
    ∷ row (fives (Check ∷ asked 50) astray) (3 ∷ 0 ∷ 0 ∷ 0 ∷ 0 ∷ passed_last 30 0)
    ∷ row (fives (asked 35) astray) (passed_last 0 60)
    -- the walk to 25 turns left, right, left, left: the last keys passed are 20, and 30 after 70 and 90
    ∷ row (fives (Check ∷ asked 25) winding) (3 ∷ 0 ∷ 0 ∷ 0 ∷ 0 ∷ passed_last 20 30)
    -- the walk to 50 turns left, right, left, right: 30 comes after 20, and 90 after 70, which is nearer
    ∷ row (fives (asked 50) winding) (passed_last 30 90)
    ∷ []
