-- `tidy_holders::entry::Holders::note_all` meets its contract. Assumes nothing.
use Prim.Native.Nat.{◌*◌}
use Rattle.tidy_holders.proofs.Noting.Filling.{Filled}
use Rattle.tidy_holders.proofs.entry.Holders.note_all.Given as goal

abbrev pub invariant-loop-k : goal.invariant-loop-k
invariant-loop-k l = Filled l.t l.c l.self.links (2 * l.k)
