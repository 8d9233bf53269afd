-- `sound::settled` meets its contract. Assumes nothing.
use mathlib.Core.Path.{sym}
use Rattle.sound.specs.Scan.{settled_at}
use Rattle.sound.proofs.settled.Goals as goal

pub returns-then-marked : goal.returns-then-marked
unfolding settled_at
returns-then-marked c = simp (sym c.marked.ensures, c.if-marked.true)

pub returns-else-marked : goal.returns-else-marked
unfolding settled_at
returns-else-marked c =
    simp (
      sym c.marked.ensures,
      c.if-marked.false,
      sym c.slot_at.ensures,
      sym c.blank.ensures,
    )
