-- Examples that idle calls would fail: what find, post, fire and tidy come to on four small tables. Assumes nothing.
use Prim.Native.Nat.{ℕ}
use mathlib.Core.List.{List, [], ◌∷◌}
use Rattle.scope.specs.Table.{word, count_word, register_at}
use Rattle.scope.specs.Calls.{Find, Post, Fire, Tidy, table_of, after}
use Rattle.scope.specs.declared.side.Side.TheVariants.{Right}
use Rattle.scope.proofs.Script.{fresh, poured, codes, Row, row}

-- a started table, with one record, with a second one to its right; and one of three such records
abbrev pub none_yet : List ℕ
none_yet = fresh 2

abbrev pub one : List ℕ
one = after (poured (5 ∷ [])) none_yet

abbrev pub two : List ℕ
two = after (poured (5 ∷ 7 ∷ [])) none_yet

abbrev pub three : List ℕ
three = after (poured (5 ∷ 7 ∷ 9 ∷ [])) (fresh 3)

-- the right register of slot k
abbrev pub right_of : ℕ → List ℕ → ℕ
right_of k t = word t (register_at k Right)

abbrev pub bites : List Row
bites =
    row (codes (Find 5 ∷ []) none_yet) (5 ∷ [])
    ∷ row (codes (Find 5 ∷ []) one) (0 ∷ [])
    ∷ row (word (table_of (Post 5 1 1) none_yet) count_word ∷ []) (1 ∷ [])
    ∷ row (codes (Fire 2 0 0 ∷ []) two) (0 ∷ [])
    ∷ row (right_of 1 two ∷ []) (0 ∷ [])
    ∷ row (right_of 1 (table_of (Fire 2 0 0) two) ∷ []) (1 ∷ [])
    ∷ row (right_of 2 (table_of (Tidy 1) three) ∷ []) (0 ∷ [])
    ∷ row (right_of 2 (table_of (Tidy 2) three) ∷ []) (1 ∷ [])
    ∷ []
