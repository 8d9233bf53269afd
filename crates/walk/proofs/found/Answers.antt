-- `walk::found` meets its contract. Assumes nothing.
use mathlib.Core.Path.{sym}
use native.Mathlib.Omega.{arith}
use Rattle.scope.specs.Find.{found_in}
use Rattle.walk.proofs.found.Goals as goal

pub slot_at-s-requires : goal.slot_at-s-requires
slot_at-s-requires c =
    let i = rw c.in-Hit.is at c.requires.1 in
    record { first = omega arith; whole = omega (arith, c.requires.0.room) }

pub returns-in-Damage : goal.returns-in-Damage
unfolding found_in
returns-in-Damage c = simp (c.in-Damage.is, sym c.refuse.ensures)

pub returns-in-Miss : goal.returns-in-Miss
unfolding found_in
returns-in-Miss c = simp (c.in-Miss.is, sym c.absent.ensures)

pub returns-in-Hit : goal.returns-in-Hit
unfolding found_in
returns-in-Hit c =
    simp (
      c.in-Hit.is,
      sym c.slot_at-s.ensures,
      sym c.change.ensures,
      sym c.from.ensures,
      sym c.from-in-Hit.ensures,
      sym c.from-in-Hit-2.ensures,
      sym c.accept.ensures,
    )
