-- `gate::tests::bounds_ok` meets its contract. Assumes nothing.
use Rattle.gate.proofs.Fitting.{bounds-together}
use Rattle.gate.proofs.tests.bounds_ok.Goals as goal

pub returns : goal.returns
returns c =
    rw (c.beside-right.ensures, c.beside-left.ensures, c.spare-extra.ensures)
    (bounds-together c.args.c c.args.n c.args.s c.requires.0)
