-- What came of reading an input.
use Rattle.std.specs.Prelude.{ℕ, Result, Ok, Err}
use Rattle.stand_input.specs.declared.Input.{Input}
use Rattle.stand_input.specs.declared.Input.TheVariants.{Ended, Full}
use Rattle.stand_input.specs.declared.ReadFailed.{ReadFailed}

-- how many bytes were read into a buffer of so many, whatever ended the reading
abbrev pub bytes_read : ℕ → Result Input ReadFailed → ℕ
bytes_read room (Ok (Ended count)) = count
bytes_read room (Ok Full) = room
bytes_read room (Err e) = e.count
