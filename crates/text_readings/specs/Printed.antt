-- The line of a command (document 01, "The program").
use Rattle.std.specs.Prelude.{ℕ, ◌-◌, ◌≤◌, ◌≡◌, List, [], ◌∷◌, ◌++◌, length, drop, Option, Some}
use Rattle.text_fields.specs.Decimal.{fields}
use Rattle.text_fields.specs.Number.{largest}
use Rattle.text_lines.specs.Form.{Form, form_of, asked}
use Rattle.text_lines.specs.declared.command.Op.{Op}
use Rattle.text_lines.specs.declared.command.Command.{Command}

-- the line of a form with its numbers
abbrev pub line_as : Form → List ℕ → List ℕ
line_as f ns = f.name ++ fields f.words ns

-- the line of a name with its numbers, which are the last of a, b and c
unfoldable pub line_of : Op → ℕ → ℕ → ℕ → List ℕ
line_of o a b c = line_as (form_of o) (drop (3 - length (form_of o).words) (a ∷ b ∷ c ∷ []))

-- s is the line of a command whose numbers are of 32 bits
pub record Printed (s : List ℕ) : Type 0 where
  pub op : Op
  pub a : ℕ
  pub b : ℕ
  pub c : ℕ
  pub small : (a ≤ largest) × (b ≤ largest) × (c ≤ largest)
  pub is : s ≡ line_of op a b c

-- and that command is x
pub record SaysCommand (s : List ℕ) (x : Option Command) : Type 0 where
  pub line : Printed s
  pub asks : x ≡ Some (asked line.op line.a line.b line.c)
