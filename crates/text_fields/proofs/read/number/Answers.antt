-- `text_fields::read::number` meets its contract. Assumes nothing.
use Rattle.std.proofs.Common.{rules, sym}
use Rattle.text_fields.specs.Read.{number_then}
use Rattle.text_fields.proofs.read.number.Goals as goal

pub returns-in_err-b : goal.returns-in_err-b
unfolding number_then
returns-in_err-b c = search rules

pub returns-in_err-value : goal.returns-in_err-value
unfolding number_then
returns-in_err-value c =
    rw (c.from_residual-in_err-value.ensures, c.in_ok-b.was, sym c.number_at.ensures, c.in_err-value.was)

pub returns : goal.returns
unfolding number_then
returns c = rw (c.in_ok-b.was, sym c.number_at.ensures, c.in_ok-value.was)
