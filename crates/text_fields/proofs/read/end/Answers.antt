-- `text_fields::read::end` meets its contract. Assumes nothing.
use Rattle.std.proofs.Common.{◌≡◌, Bool, true, false, cond, Some, None, refl, rules, ◌∙◌}
use Rattle.std.specs.Bool.{then_some}
use Rattle.text_fields.specs.Read.{end_then}
use Rattle.text_fields.proofs.read.end.Goals as goal

then-some : {A : Type 0} (b : Bool) (x : A) → then_some b x ≡ cond b (Some x) None
then-some true x = refl
then-some false x = refl

pub returns-in_err-read : goal.returns-in_err-read
unfolding end_then
returns-in_err-read c = search rules

pub returns : goal.returns
unfolding end_then
returns c = rw c.in_ok-read.was (c.then_some.ensures ∙ then-some _ _)
