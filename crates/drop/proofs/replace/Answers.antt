-- `drop::replace` meets its contract. Assumes nothing.
use native.Mathlib.Omega.{arith}
use Rattle.drop.proofs.Written.{replaced-by}
use Rattle.drop.proofs.replace.Goals as goal

pub relink-requires : goal.relink-requires
relink-requires c =
    let p = c.requires.aimed in record {
      slots = p.placed.slots;
      sized = omega arith;
      held = p.inside.2;
      below = simp (c.slot_at-m.ensures) p.inside.3;
    }

pub returns : goal.returns
returns c =
    replaced-by _ _ _ c.records-count.ensures c.change-change.ensures _
    c.slot_at-m.ensures c.take_record.ensures
    c.relink.ensures c.vacate.ensures
