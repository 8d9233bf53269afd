-- M1 to M8 of document 01, and its worked case, as tables of examples (sections "Marked examples" and "The program"). Assumes nothing.
use Prim.Native.Nat.{ℕ}
use mathlib.Core.List.{List, [], ◌∷◌, ◌++◌}
use lib.ListN.{set, take}
use Rattle.scope.specs.Table.{table_words, register_at}
use Rattle.scope.specs.Tidy.{rules_fired}
use Rattle.scope.specs.Calls.{Call, Check, Post, Drop, Total, Worth, Fire, Tidy, after}
use Rattle.scope.specs.declared.side.Side.TheVariants.{Left}
use Rattle.scope.proofs.Script.{fresh, poured, fives, codes, values, head_of, words_of, blank, header, slot, Row, row}

-- the three postings of the worked case, and the table of `stand` after them
abbrev day : List Call
day = Post 480 1200 1 ∷ Post 510 900 1 ∷ Post 540 750 1 ∷ []

abbrev m1 : List ℕ
m1 = after day (fresh 15)

-- the worth before, and after each of four firings
abbrev one_by_one : List Call
one_by_one = Worth ∷ Tidy 1 ∷ Worth ∷ Tidy 1 ∷ Worth ∷ Tidy 1 ∷ Worth ∷ Tidy 1 ∷ Worth ∷ []

abbrev m2 : List ℕ
m2 = after (poured (540 ∷ 480 ∷ 510 ∷ [])) (fresh 3)

abbrev m3 : List ℕ
m3 = after (poured (40 ∷ 20 ∷ 10 ∷ 30 ∷ [])) (fresh 4)

abbrev m5 : List ℕ
m5 = after (Tidy 10 ∷ Drop 510 ∷ []) m1

-- a chain to the left whose second node's left register holds h
abbrev m6 : ℕ → List ℕ
m6 h = set (after (poured (30 ∷ 20 ∷ 10 ∷ [])) (fresh 3)) (register_at 2 Left) h

abbrev pub marked : List Row
marked =
    -- M1
    row (rules_fired 10 15 m1) (2 ∷ 2 ∷ 2 ∷ 4 ∷ [])
    ∷ row (fives one_by_one m1)
    (0 ∷ 3 ∷ 18 ∷ 0 ∷ 0
    ∷ 0 ∷ 3 ∷ 1 ∷ 0 ∷ 0
    ∷ 0 ∷ 3 ∷ 14 ∷ 0 ∷ 0
    ∷ 0 ∷ 3 ∷ 1 ∷ 0 ∷ 0
    ∷ 0 ∷ 3 ∷ 10 ∷ 0 ∷ 0
    ∷ 0 ∷ 3 ∷ 1 ∷ 0 ∷ 0
    ∷ 0 ∷ 3 ∷ 7 ∷ 0 ∷ 0
    ∷ 0 ∷ 3 ∷ 1 ∷ 1 ∷ 0
    ∷ 0 ∷ 3 ∷ 0 ∷ 0 ∷ 0
    ∷ [])
    -- M2
    ∷ row (rules_fired 10 3 m2) (1 ∷ 2 ∷ 1 ∷ 7 ∷ [])
    ∷ row (header (after (Tidy 10 ∷ []) m2)) (head_of 3 3 3 0)
    -- M3
    ∷ row (values (Worth ∷ Tidy 10 ∷ []) m3) (42 ∷ 6 ∷ [])
    ∷ row (header (after (Tidy 10 ∷ []) m3)) (head_of 2 4 4 0)
    -- M4
    ∷ row (codes (Fire 1 1 0 ∷ Fire 2 1 0 ∷ Fire 1 0 0 ∷ Fire 3 0 0 ∷ Fire 5 0 0 ∷ []) m3) (0 ∷ 0 ∷ 0 ∷ 8 ∷ 0 ∷ [])
    ∷ row (values (Worth ∷ Fire 5 0 0 ∷ Worth ∷ []) (after (Fire 1 1 0 ∷ Fire 2 1 0 ∷ Fire 1 0 0 ∷ []) m3)) (5 ∷ 0 ∷ 4 ∷ [])
    -- M5
    ∷ row (header m5) (head_of 2 2 4 0)
    ∷ row (slot 2 m5) (words_of 1 540 750 1 0 1 0)
    ∷ row (slot 3 m5) blank
    -- M6
    ∷ row (codes (Fire 1 0 0 ∷ []) (m6 65535)) (9 ∷ [])
    ∷ row (codes (Fire 1 0 0 ∷ []) (m6 65534)) (0 ∷ [])
    ∷ row (slot 1 (after (Fire 1 0 0 ∷ []) (m6 65534))) (words_of 1 30 1 2 0 65535 0)
    -- M7
    ∷ row (fives (Total 0 ∷ []) m1) (0 ∷ 3 ∷ 0 ∷ 0 ∷ 0 ∷ [])
    -- M8: slot 2 is free, and the table is sound
    ∷ row (fives (Check ∷ Fire 1 2 0 ∷ []) (after (poured (40 ∷ [])) (fresh 3)))
    (0 ∷ 1 ∷ 0 ∷ 0 ∷ 0
    ∷ 8 ∷ 0 ∷ 0 ∷ 0 ∷ 0
    ∷ [])
    ∷ []

-- the worked case of the program `stand`, whose table has 15 slots: five calls, and the words that its list shows
abbrev pub worked : List Row
worked =
    row (fives (day ++ (Worth ∷ Tidy 10 ∷ [])) (fresh 15))
    (0 ∷ 1 ∷ 1 ∷ 0 ∷ 0
    ∷ 0 ∷ 2 ∷ 2 ∷ 0 ∷ 0
    ∷ 0 ∷ 3 ∷ 3 ∷ 0 ∷ 0
    ∷ 0 ∷ 3 ∷ 18 ∷ 0 ∷ 0
    ∷ 0 ∷ 3 ∷ 4 ∷ 1 ∷ 0
    ∷ [])
    ∷ row (take (table_words 3) (after (day ++ (Worth ∷ Tidy 10 ∷ [])) (fresh 15)))
    (head_of 2 3 3 0 ++ (words_of 1 480 1200 0 0 0 0 ++ (words_of 1 510 900 1 3 1 1 ++ words_of 1 540 750 0 0 0 0)))
    ∷ []
