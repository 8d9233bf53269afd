-- The forms as the code lists them.
use Rattle.std.specs.Prelude.{◌++◌, map}
use Rattle.text_fields.specs.Text.{bytes}
use Rattle.text_lines.specs.Form.{Form, form}
use Rattle.text_lines.specs.declared.form.Shape.{Shape}

-- the form that looks so
abbrev pub form_as : Shape → Form
form_as s = form s.op s.name.now (map (λ w. w.now) s.words.now)

-- the form of a line: `op=` stands before the name
abbrev pub op_form : Shape → Form
op_form s = let f = form_as s in form f.op (bytes "op=" ++ f.name) f.words
