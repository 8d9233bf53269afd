-- `gate::tests::fit` meets its contract. Assumes nothing.
use mathlib.Core.Path.{refl}
use native.Mathlib.Omega.{arith}
use borrow.Author.Tests.{le-leb}
use Rattle.gate.proofs.tests.fit.Goals as goal

pub returns : goal.returns
returns c = rw (c.visit_ok.ensures, le-leb 0 c.args.c (omega arith)) refl
