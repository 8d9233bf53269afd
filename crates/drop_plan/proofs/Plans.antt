-- What makes a drop's plan one that can be carried out. Assumes nothing.
use Prim.Native.Nat.{ℕ, ◌≤◌}
use mathlib.Core.Path.{◌≡◌}
use mathlib.Core.List.{List}
use Rattle.scope.specs.Table.{slot_at, son}
use Rattle.scope.specs.declared.slot.Slot.{Slot}
use Rattle.scope.specs.declared.side.Side.{Side}
use Rattle.scope.specs.declared.side.Link.{Link}
use Rattle.scope.specs.declared.outcome.Dropping.{Dropping}
use Rattle.scope.specs.declared.outcome.Dropping.TheVariants.{Lift, Replace}
use Rattle.spelling.proofs.Laws.{fit-son}
use Rattle.drop_plan.specs.Planned.{FoundAt, Lifting, DropAimed, MayDrop, CanDrop}
use Rattle.std.specs.Prelude.{Result, Ok, Err}
use Rattle.scope.specs.declared.answer.Denial.{Denial}

-- a plan that is aimed at the table can be carried out once a record is counted and a change number is left
pub can_drop : (t : List ℕ) (plan : Result Dropping Denial) → DropAimed t plan → MayDrop t → CanDrop t plan
can_drop t (Err why) a m = tt
can_drop t (Ok (Lift slot link son)) a m = record { aimed = a; may = m }
can_drop t (Ok (Replace slot least link)) a m = record { aimed = a; may = m }

-- of a record that was found, a son as it was read lies in the table, and the record can be lifted out
module _ {t : List ℕ} {c slot seen : ℕ} {link : Link} (found : FoundAt t c slot link seen) where
  pub read-son : (side : Side) {s : Slot} → s ≡ slot_at t slot → son s side ≤ c
  read-son side e = rw e (fit-son c (slot_at t slot) side found.fits)

  pub aim-lift : {next : ℕ} → next ≤ c → Lifting t slot link next
  aim-lift le = record {
    placed = record { slots = c; ready = found.ready; first = found.first; last = found.last };
    held = found.held;
    below = le;
  }
