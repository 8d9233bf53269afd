-- The invariant of `text_lines::form::Shape::command`: the words that are left, read on from here, read the whole line of the form.
use Rattle.std.proofs.Common.{◌≡◌, drop}
use Rattle.text_fields.specs.Read.{begin, word_then, fields_then}
use Rattle.text_lines.specs.Shape.{op_form}
use Rattle.text_lines.proofs.Trying.{texts}
use Rattle.text_lines.proofs.form.Shape.command.Given as goal

abbrev pub invariant-loop-w : goal.invariant-loop-w
invariant-loop-w l =
    fields_then l.s (texts (drop l.w-index l.self.words.now)) l.read ≡ fields_then l.s (texts l.self.words.now) (word_then l.s (op_form l.self).name begin)
