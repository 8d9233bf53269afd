-- Examples of refusals on sound tables: each code, in the order of the tests. Assumes nothing.
use Prim.Native.Nat.{ℕ}
use mathlib.Core.List.{List, [], ◌∷◌}
use lib.ListN.{replicate, set}
use Rattle.scope.specs.Table.{change_word}
use Rattle.scope.specs.Calls.{Call, Start, Check, Find, Post, Amend, Drop, Rank, Total, Worth, Fire, Tidy, after}
use Rattle.scope.proofs.Script.{fresh, poured, fives, codes, Row, row}

-- every call once, with arguments in range
abbrev every_call : List Call
every_call = Start ∷ Check ∷ Find 5 ∷ Post 5 1 1 ∷ Amend 5 1 1 ∷ Drop 5 ∷ Rank 1 ∷ Total 0 ∷ Worth ∷ Fire 1 0 0 ∷ Tidy 3 ∷ []

-- a full table of two slots, and one whose change number is the last
abbrev full : List ℕ
full = after (poured (40 ∷ 20 ∷ [])) (fresh 2)

abbrev last : List ℕ
last = set (after (poured (40 ∷ 20 ∷ [])) (fresh 3)) change_word 4294967295

abbrev pub refusal_rows : List Row
refusal_rows =
    -- a refusal is its code and four zeros
    row (fives (Post 7 1 1 ∷ []) full) (6 ∷ 0 ∷ 0 ∷ 0 ∷ 0 ∷ [])
    -- 1: lengths that are not 4 + 8c with c from 1 on
    ∷ row (codes every_call []) (replicate 11 1)
    ∷ row (codes every_call (replicate 4 0)) (replicate 11 1)
    ∷ row (codes every_call (replicate 13 0)) (replicate 11 1)
    -- 2: arguments out of range
    ∷ row (codes (Find 0 ∷ Post 0 1 1 ∷ Post 5 0 1 ∷ Post 5 1000001 1 ∷ Post 5 1 0 ∷ Post 5 1 3 ∷ Amend 5 1 3 ∷ Drop 0 ∷ Rank 0 ∷ []) full)
    (replicate 9 2)
    ∷ row (codes (Fire 0 0 0 ∷ Fire 9 0 0 ∷ Fire 1 3 0 ∷ Fire 1 1 2 ∷ Fire 1 0 1 ∷ []) full) (replicate 5 2)
    -- 4 before 6, 5, 6, rank past the count, 7 after all others
    ∷ row (codes (Post 40 1 1 ∷ Amend 7 1 1 ∷ Drop 7 ∷ Post 7 1 1 ∷ Rank 2 ∷ Rank 3 ∷ []) full) (4 ∷ 5 ∷ 5 ∷ 6 ∷ 0 ∷ 5 ∷ [])
    ∷ row (codes (Post 7 1 1 ∷ Post 40 1 1 ∷ Amend 40 1 1 ∷ Amend 7 1 1 ∷ Drop 40 ∷ Drop 7 ∷ []) last) (7 ∷ 4 ∷ 7 ∷ 5 ∷ 7 ∷ 5 ∷ [])
    ∷ row (fives (Find 40 ∷ Fire 1 0 0 ∷ []) last) (0 ∷ 4294967295 ∷ 1 ∷ 1 ∷ 1 ∷ 0 ∷ 4294967295 ∷ 0 ∷ 0 ∷ 0 ∷ [])
    -- 8: an empty link, a missing son, a son that is reliable, a balance that is too small
    ∷ row (codes (Fire 1 2 0 ∷ Fire 2 0 0 ∷ Fire 1 0 0 ∷ Fire 1 0 0 ∷ Fire 3 0 0 ∷ Fire 7 0 0 ∷ []) full) (8 ∷ 8 ∷ 0 ∷ 8 ∷ 8 ∷ 8 ∷ [])
    ∷ []
