-- The invariant of `text_lines::form::first_command`: the line is of none of the forms so far.
use Rattle.std.proofs.Common.{◌≡◌, drop, map, None}
use Rattle.text_lines.specs.Form.{tried}
use Rattle.text_lines.specs.Shape.{op_form}
use Rattle.text_lines.proofs.form.first_command.Given as goal

abbrev pub invariant-loop-shape : goal.invariant-loop-shape
invariant-loop-shape l = tried (map op_form l.shapes) l.s None ≡ tried (map op_form (drop l.shape-index l.shapes)) l.s None
