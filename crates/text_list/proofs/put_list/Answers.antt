-- `text_list::put_list` meets its contract. Assumes nothing.
use native.Mathlib.Omega.{arith}
use Rattle.text_list.specs.List.{list_text}
use Rattle.text_list.proofs.Records.{wider}
use Rattle.text_list.proofs.put_list.Goals as goal

pub put_listed-requires : goal.put_listed-requires
put_listed-requires c =
    let room = rw (rw c.in-Ok.is at c.enter_sound.ensures).1 at c.in-Ok.table.room in omega (arith, c.requires, room)

pub returns-in-Err : goal.returns-in-Err
unfolding list_text
returns-in-Err c =
    rw (rw c.in-Err.is at c.enter_sound.ensures)
    (wider (rw c.refuse.ensures at c.put_answer.ensures) (omega arith))

pub returns-in-Ok : goal.returns-in-Ok
unfolding list_text
returns-in-Ok c =
    let e = rw c.in-Ok.is at c.enter_sound.ensures in
    let room = rw e.1 at c.in-Ok.table.room in
    rw e.0 (wider (rw e.1 at c.put_listed.ensures) (omega (arith, room)))
