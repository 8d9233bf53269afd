-- `tidy_holders::entry::Holders::link` meets its contract. Assumes nothing.
use borrow.Author.Tests.{eq-eqb, ne_eqb}
use Rattle.tidy_holders.specs.Codes.{link_numbered}
use Rattle.tidy_holders.proofs.entry.Holders.link.Goals.{then-q-eq0, else-q-eq0}
use Rattle.tidy_holders.proofs.entry.Holders.link.Goals as goal

pub returns : goal.returns
unfolding link_numbered
returns c =
    elim c.if-q-eq0.branch [
      | then-q-eq0 w ↦ simp (eq-eqb _ _ w.if-q-eq0.true, w.side-is)
      | else-q-eq0 w ↦ simp (ne_eqb _ _ w.if-q-eq0.false, w.side-is)
    ]
