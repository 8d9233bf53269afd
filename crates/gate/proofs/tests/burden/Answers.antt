-- `gate::tests::burden` meets its contract. Assumes nothing.
use borrow.Author.Tests.{eq-eqb, ne_eqb}
use Rattle.gate.proofs.tests.burden.Goals as goal

pub returns-then-link-eq0 : goal.returns-then-link-eq0
returns-then-link-eq0 c = simp (eq-eqb _ _ c.if-link-eq0.true)

pub returns-else-link-eq0 : goal.returns-else-link-eq0
returns-else-link-eq0 c = simp (ne_eqb _ _ c.if-link-eq0.false)
