-- `tidy_holders::entry::Holders::above` meets its contract. Assumes nothing.
use borrow.Author.Tests.{eq-eqb, ne_eqb}
use Rattle.tidy_holders.specs.Codes.{above_of}
use Rattle.tidy_holders.proofs.entry.Holders.above.Goals as goal

pub returns-then-holder-eq0 : goal.returns-then-holder-eq0
unfolding above_of
returns-then-holder-eq0 c = simp (eq-eqb _ _ c.if-holder-eq0.true)

pub returns-else-holder-eq0 : goal.returns-else-holder-eq0
unfolding above_of
returns-else-holder-eq0 c = simp (ne_eqb _ _ c.if-holder-eq0.false)
