-- `sound::in_place` meets its contract. Assumes nothing.
use Rattle.sound.specs.Scan.{in_place}
use mathlib.Core.Path.{sym}
use Rattle.sound.proofs.in_place.Goals as goal

pub returns : goal.returns
unfolding in_place
returns c = simp (sym c.from-key.ensures, sym c.fit.ensures)
