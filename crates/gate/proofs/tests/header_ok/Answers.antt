-- `gate::tests::header_ok` meets its contract. Assumes nothing.
use Rattle.gate.proofs.Fitting.{header-together}
use Rattle.gate.proofs.tests.header_ok.Goals as goal

pub returns : goal.returns
returns c =
    rw (c.zero.ensures, c.records.ensures, c.root.ensures, c.spare-extra.ensures)
    (header-together c.args.c _ c.requires.1)
