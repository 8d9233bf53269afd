-- `text_fields::input::line_end` meets its contract: the first line of the rest, from where the rest begins. Assumes nothing.
use Rattle.std.proofs.Common.{drop, arith, length-drop}
use Rattle.text_fields.proofs.Lines.{line-within}
use Rattle.text_fields.proofs.input.line_end.Goals as goal

pub overflow_add-result : goal.overflow_add-result
overflow_add-result c =
    let s = c.args.s.now in
    let is = rw c.rest.ensures at c.line_length.ensures in
    omega (arith, is, line-within (drop c.args.from s), length-drop c.args.from s)

pub returns : goal.returns
returns c =
    let s = c.args.s.now in
    let is = rw c.rest.ensures at c.line_length.ensures in
    record {
      is = omega (arith, is);
      within = omega (arith, is, line-within (drop c.args.from s), length-drop c.args.from s);
    }
