-- An open gate hands on the words it was lent, with the number of their slots. Assumes nothing: these are statements.
use Rattle.std.specs.Prelude.{ℕ, ◌≡◌, List, Result, Ok, Err}
use Rattle.scope.specs.declared.answer.Refusal.{Refusal}
use Rattle.gate.specs.declared.table.Table.{Table}
use Rattle.gate.specs.declared.table.SoundTable.{SoundTable}

abbrev pub Opens : List ℕ → Result ℕ Refusal → Result Table Refusal → Type 0
Opens t g (Err why) = g ≡ Err why
Opens t g (Ok table) = (g ≡ Ok table.slots) × (table.words.now ≡ t)

-- and so does the gate of the calls that want a sound table
abbrev pub OpensSound : List ℕ → Result ℕ Refusal → Result SoundTable Refusal → Type 0
OpensSound t g (Err why) = g ≡ Err why
OpensSound t g (Ok table) = (g ≡ Ok table.slots) × (table.words.now ≡ t)
