-- `gate::tests::beside` meets its contract. Assumes nothing.
use mathlib.Core.Path.{sym}
use native.Mathlib.Omega.{arith}
use Rattle.gate.proofs.Fitting.{burden-le}
use Rattle.gate.proofs.tests.beside.Goals as goal

pub overflow_add-result : goal.overflow_add-result
overflow_add-result c = omega (arith, c.burden.ensures, burden-le c.args.link)

pub returns : goal.returns
returns c = simp (sym c.burden.ensures)
