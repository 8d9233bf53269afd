-- `words::read::link_word` meets its contract. Assumes nothing.
use borrow.Author.Tests.{eq-eqb, ne_eqb}
use Rattle.scope.specs.Table.{link_at}
use Rattle.words.proofs.read.link_word.Goals as goal

pub returns-then-holder-eq-ROOT : goal.returns-then-holder-eq-ROOT
unfolding link_at
returns-then-holder-eq-ROOT c = simp (eq-eqb _ _ c.if-holder-eq-ROOT.true)

pub returns-in-Left : goal.returns-in-Left
unfolding link_at
returns-in-Left c = simp (ne_eqb _ _ c.if-holder-eq-ROOT.false, c.in-Left.is)

pub returns-in-Right : goal.returns-in-Right
unfolding link_at
returns-in-Right c = simp (ne_eqb _ _ c.if-holder-eq-ROOT.false, c.in-Right.is)
