-- `text_lines::form::parse` meets its contract. Assumes nothing.
use borrow.Author.Tests.{lt-ltb, le-ltb}
use Rattle.text_lines.specs.Form.{form_of, command_of}
use Rattle.text_lines.proofs.form.parse.Goals as goal

pub returns-then-line-gt80 : goal.returns-then-line-gt80
unfolding command_of
returns-then-line-gt80 c = rw (lt-ltb _ _ c.if-line-gt80.true)

pub returns : goal.returns
unfolding command_of form_of
returns c = rw (le-ltb _ _ c.if-line-gt80.false) c.first_command.ensures
