-- `tidy_holders::entry::Holders::note_all` meets its contract. Assumes nothing.
use Prim.Native.Nat.{◌+◌}
use native.Mathlib.Omega.{arith}
use Rattle.tidy_holders.proofs.Noting.Filling.{root-most, filled-start, sons-in, filled-on, filled-end}
use Rattle.tidy_holders.proofs.entry.Holders.note_all.Goals as goal

pub note-requires : goal.note-requires
note-requires c = (rw c.root.ensures (root-most c.requires), omega arith)

pub loop-k-init : goal.loop-k-init
loop-k-init c = filled-start c.requires _ c.root.ensures c.args.self.now.room c.note.ensures

pub note_sons-requires : goal.note_sons-requires
note_sons-requires c = sons-in c.requires c.loop-k.auto.k c.loop-k-test.true

pub loop-k-preserved : goal.loop-k-preserved
loop-k-preserved c =
    filled-on c.requires c.loop-k.auto.k c.loop-k-test.true c.loop-k.invariant c.note_sons.ensures

pub returns-2 : goal.returns-2
returns-2 c =
    let next = filled-on c.requires c.loop-k.auto.k c.loop-k-test.true c.loop-k.invariant c.note_sons.ensures in
    filled-end {k = c.loop-k.k + 1} next (omega arith)
