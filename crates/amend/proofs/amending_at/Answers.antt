-- `amend::amending_at` meets its contract. Assumes nothing.
use mathlib.Core.Path.{sym}
use native.Mathlib.Omega.{arith}
use borrow.Author.Tests.{lt-ltb, le-ltb}
use Rattle.scope.specs.Amend.{amending_at}
use Rattle.gate.proofs.Tables.{table_ready}
use Rattle.amend.proofs.amending_at.Goals as goal

pub returns-in-Damage : goal.returns-in-Damage
unfolding amending_at
returns-in-Damage c = record { is = simp c.in-Damage.is; can = tt }

pub returns-in-Miss : goal.returns-in-Miss
unfolding amending_at
returns-in-Miss c = record { is = simp c.in-Miss.is; can = tt }

pub returns-then-change-lt-LAST_CHANGE : goal.returns-then-change-lt-LAST_CHANGE
unfolding amending_at
returns-then-change-lt-LAST_CHANGE c =
    let i = rw c.in-Hit.is at c.requires in
    record {
      is = simp (c.in-Hit.is, sym c.change.ensures, lt-ltb _ _ c.if-change-lt-LAST_CHANGE.true);
      can = record {
        placed = record { slots = c.args.table.slots; ready = table_ready c.args.table; first = i.0; last = i.1 };
        change = omega arith;
      };
    }

pub returns-else-change-lt-LAST_CHANGE : goal.returns-else-change-lt-LAST_CHANGE
unfolding amending_at
returns-else-change-lt-LAST_CHANGE c =
    record {
      is = simp (c.in-Hit.is, sym c.change.ensures, le-ltb _ _ c.if-change-lt-LAST_CHANGE.false);
      can = tt;
    }
