-- What a table that was let in tells of its words. Assumes nothing.
use Rattle.spelling.specs.Ready.{Sized, Ready}
use Rattle.spelling.specs.Whole.{Whole}
use Rattle.spelling.proofs.Exact.{sound-says}
use Rattle.gate.specs.declared.table.Table.{Table}
use Rattle.gate.specs.declared.table.SoundTable.{SoundTable}

-- its words are ready
pub table_ready : (x : Table) → Ready x.words.now x.slots
table_ready x = record {
  sized = record { room = x.room; some = x.some; most = x.most };
  root = x.root;
  count = x.count;
}

-- and a sound one is whole
pub table_whole : (x : SoundTable) → Whole x.words.now x.slots
table_whole x = record {
  sized = record { room = x.room; some = x.some; most = x.most };
  sound = sound-says x.words.now x.slots x.sound;
}
