-- Examples on damaged words: the stated walk and writes decide them too. Assumes nothing.
use Prim.Native.Nat.{ℕ}
use mathlib.Core.List.{List, [], ◌∷◌, ◌++◌}
use lib.ListN.{replicate}
use Rattle.scope.specs.Calls.{Check, Find, Post, Amend, Drop, Rank, Total, Worth, Fire, Tidy, after}
use Rattle.scope.proofs.Script.{fives, codes, head_of, words_of, blank, header, slot, Row, row}

-- slot 1 is its own left son; slot 2 is free
abbrev ring : List ℕ
ring = head_of 1 1 6 0 ++ (words_of 1 40 9 1 0 3 0 ++ blank)

-- a header whose last word is not 0
abbrev torn : List ℕ
torn = head_of 1 1 6 5 ++ (words_of 1 40 9 0 0 0 0 ++ blank)

-- the second record has no pieces
abbrev unfit : List ℕ
unfit = head_of 1 2 6 0 ++ (words_of 1 40 9 2 0 1 0 ++ words_of 1 20 0 0 0 0 0)

-- one record, with `count` in word 1 and `key` left standing in the free slot
abbrev stale : ℕ → ℕ → List ℕ
stale count key = head_of 1 count 6 0 ++ (words_of 1 40 9 0 0 0 0 ++ words_of 0 key 0 0 0 0 0)

-- both slots taken, the second not reached
abbrev lost : List ℕ
lost = head_of 1 1 6 0 ++ (words_of 1 40 9 0 0 0 0 ++ words_of 1 20 8 0 0 0 0)

-- two sons, of which the right one is its own left son
abbrev deep : List ℕ
deep = head_of 1 3 6 0 ++ (words_of 1 40 9 2 3 0 0 ++ (words_of 1 20 8 0 0 0 0 ++ words_of 1 60 7 3 0 0 0))

abbrev pub damage : List Row
damage =
    -- calls that want a sound table say 3
    row (codes (Check ∷ Rank 1 ∷ Total 9 ∷ Worth ∷ Tidy 0 ∷ []) ring) (replicate 5 3)
    -- but an argument out of range comes first
    ∷ row (codes (Rank 0 ∷ Find 0 ∷ Drop 0 ∷ []) torn) (replicate 3 2)
    ∷ row (codes (Find 40 ∷ Post 50 1 1 ∷ Amend 40 1 1 ∷ Drop 40 ∷ Fire 1 0 0 ∷ []) torn) (replicate 5 3)
    -- find: the ring is walked until the slots are spent; what lies on the way is found
    ∷ row (fives (Find 40 ∷ Find 30 ∷ Find 50 ∷ []) ring)
    (0 ∷ 6 ∷ 9 ∷ 1 ∷ 1 ∷ 3 ∷ 0 ∷ 0 ∷ 0 ∷ 0 ∷ 5 ∷ 0 ∷ 40 ∷ 0 ∷ 0 ∷ [])
    ∷ row (codes (Find 40 ∷ Find 20 ∷ Find 30 ∷ []) unfit) (0 ∷ 3 ∷ 3 ∷ [])
    -- post: a free slot that is not blank, a count that is already full, no free slot whatever the count
    ∷ row (codes (Post 50 1 1 ∷ []) (stale 1 0)) (0 ∷ [])
    ∷ row (codes (Post 50 1 1 ∷ []) (stale 1 77)) (3 ∷ [])
    ∷ row (codes (Post 50 1 1 ∷ []) (stale 2 0)) (3 ∷ [])
    ∷ row (codes (Post 40 1 1 ∷ []) (stale 2 77)) (4 ∷ [])
    ∷ row (codes (Post 50 1 1 ∷ []) lost) (6 ∷ [])
    ∷ row (fives (Post 50 4 2 ∷ []) ring) (0 ∷ 7 ∷ 2 ∷ 0 ∷ 0 ∷ [])
    ∷ row (slot 1 (after (Post 50 4 2 ∷ []) ring)) (words_of 1 40 9 1 2 3 0)
    -- drop: a son that is the record itself takes the link, and then its slot is zeroed
    ∷ row (fives (Drop 40 ∷ []) ring) (0 ∷ 7 ∷ 1 ∷ 0 ∷ 0 ∷ [])
    ∷ row (header (after (Drop 40 ∷ []) ring)) (head_of 1 0 7 0)
    ∷ row (slot 1 (after (Drop 40 ∷ []) ring)) blank
    -- a record that no count knows of, a leftmost that is never reached
    ∷ row (codes (Drop 40 ∷ Drop 7 ∷ Amend 40 1 1 ∷ []) (stale 0 0)) (3 ∷ 5 ∷ 0 ∷ [])
    ∷ row (codes (Drop 40 ∷ Drop 20 ∷ []) deep) (3 ∷ 0 ∷ [])
    -- fire: an unfit node, a node that is its own son, a missing node, a free holder before all of these
    ∷ row (codes (Fire 1 0 0 ∷ Fire 2 0 0 ∷ []) unfit) (3 ∷ 8 ∷ [])
    ∷ row (codes (Fire 1 0 0 ∷ Fire 1 1 0 ∷ Fire 1 2 0 ∷ []) ring) (3 ∷ 3 ∷ 8 ∷ [])
    ∷ []
