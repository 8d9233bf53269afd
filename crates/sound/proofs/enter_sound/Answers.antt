-- `sound::enter_sound` meets its contract. Assumes nothing.
use mathlib.Core.Path.{refl, sym}
use Rattle.scope.proofs.Errs.{handed_on}
use Rattle.gate.proofs.Tables.{table_ready}
use Rattle.spelling.proofs.Opened.{shut-too, open-too}
use Rattle.sound.proofs.enter_sound.Goals as goal

pub sound-requires : goal.sound-requires
sound-requires c =
    let same = (rw c.in_ok-table.was at c.enter.ensures).1 in rw same at (table_ready c.in_ok-table.table).sized

pub returns-in_err-table : goal.returns-in_err-table
returns-in_err-table c =
    rw (handed_on _ c.from_residual.ensures.1) (sym (shut-too _ _ _ (sym (rw c.in_err-table.was at c.enter.ensures)) refl))

pub returns-then-sound : goal.returns-then-sound
returns-then-sound c =
    let e = open-too _ _ _ (sym (rw c.in_ok-table.was at c.enter.ensures).0) refl in
    let q = simp (sym c.sound.ensures, c.if-sound.true) at e in (sym q, refl)

pub returns-else-sound : goal.returns-else-sound
returns-else-sound c =
    let e = open-too _ _ _ (sym (rw c.in_ok-table.was at c.enter.ensures).0) refl in
    let q = simp (sym c.sound.ensures, c.if-sound.false) at e in sym q
