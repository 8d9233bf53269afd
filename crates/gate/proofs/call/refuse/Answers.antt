-- `gate::call::refuse` meets its contract. Assumes nothing.
use mathlib.Core.Path.{sym}
use Rattle.gate.proofs.call.refuse.Goals as goal

pub returns : goal.returns
returns c = simp (sym c.code.ensures)
