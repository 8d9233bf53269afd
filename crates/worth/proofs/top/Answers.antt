-- `worth::top` meets its contract. Assumes nothing.
use mathlib.Core.Path.{refl, ap, ◌∙◌}
use native.Mathlib.Omega.{arith}
use Rattle.scope.specs.Tree.{over}
use Rattle.scope.specs.declared.slot.Slot.{Slot}
use Rattle.fork.proofs.Down.{forked, says-leaf}
use Rattle.worth.specs.Weight.{top_of}
use Rattle.worth.proofs.Under.{top-here}
use Rattle.worth.proofs.top.Goals as goal

pub returns-then-x-eq0 : goal.returns-then-x-eq0
unfolding top_of
returns-then-x-eq0 c = (says-leaf _ _ top_of c.if-x-eq0.true, omega arith)

pub returns-else-x-eq0 : goal.returns-else-x-eq0
returns-else-x-eq0 c =
    top-here (forked c.requires.1 (omega (arith, c.if-x-eq0.false)) refl)
    (c.over.ensures ∙ ap (λ (s : Slot). over s.lefth s.righth) c.slot_at-s.ensures)
