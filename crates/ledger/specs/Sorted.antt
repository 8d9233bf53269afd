-- A list of records sorted by stamp. Assumes nothing: these are statements.
use Rattle.std.specs.Prelude.{ℕ, ◌<◌, List, [], ◌∷◌}
use Rattle.ledger.specs.Entries.{Entry}

-- a statement on the stamp of every record
abbrev pub EachStamp : (ℕ → Type 0) → List Entry → Type 0
EachStamp P [] = Unit {0}
EachStamp P (e ∷ es) = P e.key × EachStamp P es

-- all of them come after a stamp
abbrev pub AllAfter : ℕ → List Entry → Type 0
AllAfter key = EachStamp (λ stamp. key < stamp)

-- every stamp is smaller than all that come after it
abbrev pub Sorted : List Entry → Type 0
Sorted [] = Unit {0}
Sorted (e ∷ es) = AllAfter e.key es × Sorted es
