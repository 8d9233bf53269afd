-- `stand_shift::run::answer_all` hands on the whole run piece by piece, and ends. Assumes nothing.
use Prim.Native.Nat.{◌*◌, ◌-◌, ◌≤◌}
use lib.ListN.{length, take}
use Rattle.std.specs.Prelude.{OnOk}
use Rattle.std.specs.Io.KnownBytes.{Appends}
use Rattle.stand_shift.specs.Run.{run_text}
use Rattle.stand_shift.proofs.Telling.{ToldSoFar}
use Rattle.stand_shift.proofs.run.answer_all.Given as goal

abbrev pub invariant-loop-from : goal.invariant-loop-from
invariant-loop-from g l = record {
  told : ToldSoFar l.input l.t l.from l.sent;
  bounded : l.sent ≤ 16384 * l.from;
  written : OnOk l.done (Appends (g.W.Write.contents l.initial.writer) (g.W.Write.contents l.writer) (take l.sent (run_text l.input)));
}

abbrev pub decreases-loop-from : goal.decreases-loop-from
decreases-loop-from g l = length l.input - l.from
