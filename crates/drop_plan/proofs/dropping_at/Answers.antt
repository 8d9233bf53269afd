-- `drop_plan::dropping_at` meets its contract. Assumes nothing.
use Rattle.scope.specs.Drop.{dropping_at}
use Rattle.gate.proofs.Tables.{table_ready}
use Rattle.drop_plan.proofs.dropping_at.Goals as goal

pub drop_at-requires : goal.drop_at-requires
drop_at-requires c =
    let p = c.requires in
    let i = rw c.in-Hit.is at p.0 in
    record {
      ready = table_ready c.args.table;
      first = i.0;
      last = i.1;
      held = i.2;
      seen = i.4;
      fits = rw c.in-Hit.is at p.1;
    }

pub returns-in-Damage : goal.returns-in-Damage
unfolding dropping_at
returns-in-Damage c = record { is = simp c.in-Damage.is; can = tt }

pub returns-in-Miss : goal.returns-in-Miss
unfolding dropping_at
returns-in-Miss c = record { is = simp c.in-Miss.is; can = tt }

pub returns-in-Hit : goal.returns-in-Hit
unfolding dropping_at
returns-in-Hit c = simp c.in-Hit.is c.drop_at.ensures
