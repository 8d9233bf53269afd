-- `text_lines::form::Shape::command` meets its contract: the name, the words and the end are read as the form says. Assumes nothing.
use Rattle.std.proofs.Common.{sym, ap, ◌∙◌, arith}
use Rattle.text_fields.specs.Read.{fields_then}
use Rattle.text_lines.specs.Form.{tried}
use Rattle.text_lines.proofs.Trying.{texts, words-more, words-all}
use Rattle.text_fields.proofs.Words.{starts-fits}
use Rattle.text_lines.proofs.Naming.{name-read}
use Rattle.text_lines.proofs.form.Shape.command.Goals as goal

pub overflow_add-read : goal.overflow_add-read
overflow_add-read c = omega (arith, starts-fits _ _ c.requires)

pub loop-w-init : goal.loop-w-init
loop-w-init c = ap (fields_then c.args.s.now (texts c.args.self.now.words.now)) (name-read c.args.s.now c.args.self.now c.requires)

pub loop-w-preserved : goal.loop-w-preserved
loop-w-preserved c =
    rw c.field-read.ensures
    (sym (words-more c.args.s.now c.args.self.now.words.now c.loop-w.w-index _ c.loop-w.read c.loop-w-test.true) ∙ c.loop-w.invariant)

pub returns-in_err-a : goal.returns-in_err-a
unfolding tried
returns-in_err-a c =
    let read = sym c.loop-w.invariant ∙ words-all c.args.s.now c.args.self.now.words.now c.loop-w.w-index c.loop-w.read c.loop-w-test.false in
    rw (read, sym c.end.ensures, c.in_err-a.was) c.from_residual.ensures

pub returns : goal.returns
unfolding tried
returns c =
    let read = sym c.loop-w.invariant ∙ words-all c.args.s.now c.args.self.now.words.now c.loop-w.w-index c.loop-w.read c.loop-w-test.false in
    rw (read, sym c.end.ensures, c.in_ok-a.was, c.asked.ensures)
