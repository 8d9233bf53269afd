-- `sound::from_root` meets its contract. Assumes nothing.
use native.Mathlib.Omega.{arith}
use Rattle.sound.proofs.Steps.{at_end}
use Rattle.sound.proofs.from_root.Goals as goal

pub scan-requires : goal.scan-requires
scan-requires c = (omega (arith, c.if-x-eq0.false), c.requires)

pub returns-then-x-eq0 : goal.returns-then-x-eq0
returns-then-x-eq0 c =
    let asked = c.requires in at_end _ _ _ _ _ _ _ c.if-x-eq0.true

pub returns-else-x-eq0 : goal.returns-else-x-eq0
returns-else-x-eq0 c = c.scan.ensures
