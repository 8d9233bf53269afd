-- Examples on sound tables that tell wrong definitions apart where M1 to M8 do not. Assumes nothing.
use Prim.Native.Nat.{ℕ}
use mathlib.Core.List.{List, [], ◌∷◌, ◌++◌}
use lib.ListN.{set}
use Rattle.scope.specs.Table.{register_at}
use Rattle.scope.specs.Calls.{Start, Check, Find, Post, Amend, Drop, Rank, Total, Worth, Fire, Tidy, after}
use Rattle.scope.specs.declared.side.Side.TheVariants.{Left}
use Rattle.scope.proofs.Script.{fresh, poured, fives, values, head_of, words_of, blank, header, slot, Row, row}

-- a chain to the left whose top leans by three
abbrev leaning : List ℕ
leaning =
    set (set (after (poured (40 ∷ 20 ∷ 10 ∷ [])) (fresh 3)) (register_at 2 Left) 2) (register_at 1 Left) 3

-- 40 over 20 and 60, and 50 under 60; the register over 50 is told of it
abbrev pub four : List ℕ
four = after (poured (40 ∷ 20 ∷ 60 ∷ 50 ∷ []) ++ (Fire 1 1 1 ∷ [])) (fresh 4)

abbrev pub further : List Row
further =
    -- a posted leaf has both registers 0, and the register above it is not written
    row (slot 1 (after (poured (40 ∷ 20 ∷ [])) (fresh 3))) (words_of 1 40 1 2 0 0 0)
    ∷ row (slot 2 (after (poured (40 ∷ 20 ∷ [])) (fresh 3))) (words_of 1 20 1 0 0 0 0)
    -- a rotation is made at a balance of three too, and a firing moves no change number
    ∷ row (fives (Fire 3 0 0 ∷ []) leaning) (0 ∷ 3 ∷ 0 ∷ 0 ∷ 0 ∷ [])
    ∷ row (header (after (Fire 3 0 0 ∷ []) leaning)) (head_of 2 3 3 0)
    ∷ row (slot 1 (after (Fire 3 0 0 ∷ []) leaning)) (words_of 1 40 1 0 0 0 0)
    ∷ row (slot 2 (after (Fire 3 0 0 ∷ []) leaning)) (words_of 1 20 1 3 1 2 1)
    -- a drop that empties a link clears the register beside it
    ∷ row (slot 1 (after (poured (40 ∷ 20 ∷ []) ++ (Fire 1 0 0 ∷ [])) (fresh 3))) (words_of 1 40 1 2 0 1 0)
    ∷ row (slot 1 (after (poured (40 ∷ 20 ∷ []) ++ (Fire 1 0 0 ∷ Drop 20 ∷ [])) (fresh 3))) (words_of 1 40 1 0 0 0 0)
    -- with two sons the leftmost of the right side takes the place, and its link's register is cleared too
    ∷ row (slot 3 four) (words_of 1 60 1 4 0 1 0)
    ∷ row (fives (Drop 40 ∷ []) four) (0 ∷ 5 ∷ 4 ∷ 0 ∷ 0 ∷ [])
    ∷ row (header (after (Drop 40 ∷ []) four)) (head_of 1 3 5 0)
    ∷ row (slot 1 (after (Drop 40 ∷ []) four)) (words_of 1 50 1 2 3 0 0)
    ∷ row (slot 3 (after (Drop 40 ∷ []) four)) (words_of 1 60 1 0 0 0 0)
    ∷ row (slot 4 (after (Drop 40 ∷ []) four)) blank
    -- a son takes the link of a record that has no other; a freed slot is taken again, the lowest first
    ∷ row (header (after (poured (40 ∷ 20 ∷ []) ++ (Drop 40 ∷ [])) (fresh 3))) (head_of 2 1 3 0)
    ∷ row (fives (Post 70 5 2 ∷ []) (after (poured (40 ∷ 20 ∷ []) ++ (Drop 40 ∷ [])) (fresh 3))) (0 ∷ 4 ∷ 1 ∷ 0 ∷ 0 ∷ [])
    -- find: a hit with its visits and its state, an amended record
    ∷ row (fives (Find 50 ∷ Find 40 ∷ []) four)
    (0 ∷ 4 ∷ 1 ∷ 3 ∷ 1
    ∷ 0 ∷ 4 ∷ 1 ∷ 1 ∷ 1
    ∷ [])
    ∷ row (fives (Amend 50 800 2 ∷ Find 50 ∷ []) four) (0 ∷ 5 ∷ 4 ∷ 0 ∷ 0 ∷ 0 ∷ 5 ∷ 800 ∷ 3 ∷ 2 ∷ [])
    -- rank by stamp, total up to a stamp, remelt counted too
    ∷ row (values (Rank 1 ∷ Rank 2 ∷ Rank 3 ∷ Rank 4 ∷ []) four) (2 ∷ 1 ∷ 4 ∷ 3 ∷ [])
    ∷ row (values (Total 19 ∷ Total 20 ∷ Total 55 ∷ Total 4294967295 ∷ []) (after (Amend 50 800 2 ∷ []) four)) (0 ∷ 1 ∷ 802 ∷ 803 ∷ [])
    -- check and start; a budget of 0 fires nothing and tells whether a guard holds
    ∷ row (fives (Check ∷ Start ∷ Check ∷ Tidy 0 ∷ Worth ∷ []) four)
    (0 ∷ 4 ∷ 0 ∷ 0 ∷ 0
    ∷ 0 ∷ 0 ∷ 0 ∷ 0 ∷ 0
    ∷ 0 ∷ 0 ∷ 0 ∷ 0 ∷ 0
    ∷ 0 ∷ 0 ∷ 0 ∷ 1 ∷ 0
    ∷ 0 ∷ 0 ∷ 0 ∷ 0 ∷ 0
    ∷ [])
    ∷ row (fives (Tidy 0 ∷ Tidy 1 ∷ Tidy 100 ∷ []) four) (0 ∷ 4 ∷ 0 ∷ 0 ∷ 0 ∷ 0 ∷ 4 ∷ 1 ∷ 0 ∷ 0 ∷ 0 ∷ 4 ∷ 1 ∷ 1 ∷ 0 ∷ [])
    ∷ []
