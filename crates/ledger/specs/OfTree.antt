-- The records of a tree as a list, in the order of their stamps. Assumes nothing: these are definitions.
use Rattle.std.specs.Prelude.{List, map}
use Rattle.scope.specs.Tree.{Batch, Tree, in_order}
use Rattle.ledger.specs.Entries.{Entry}

-- a record without its slot
abbrev pub entry_of : Batch → Entry
entry_of d = record { key = d.key; pieces = d.pieces; state = d.state }

abbrev pub entries_of : Tree → List Entry
entries_of T = map entry_of (in_order T)
