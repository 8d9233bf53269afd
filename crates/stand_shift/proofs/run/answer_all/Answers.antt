-- `stand_shift::run::answer_all` meets its contract: each piece is the next of the run's text, and at the end it was handed
-- on whole. Assumes nothing.
use native.Mathlib.Omega.{arith}
use Rattle.std.proofs.lemmas.Result.{on_ok_weaker}
use Rattle.stand_shift.proofs.Telling.{told_more, told-piece, told-all}
use Rattle.stand_shift.proofs.Written.{written-more, written-all, both-made}
use Rattle.stand_shift.proofs.run.answer_all.Goals as goal

pub hand_on-told-requires : goal.hand_on-told-requires
hand_on-told-requires g c =
    let f = c.fill-filled.ensures.answered_so in
    (f.within, told-piece c.loop-from.invariant.told f c.requires.0)

pub loop-from-preserved : goal.loop-from-preserved
loop-from-preserved g c =
    let f = c.fill-filled.ensures.answered_so in
    let i = c.loop-from.invariant in
    let m = c.fill-filled.ensures.from_lt_next c.loop-from-test.true in
    let told = c.hand_on-told.ensures in
    record {
      told = rw told.count (told_more i.told f);
      bounded = omega (arith, m, f.within, told.count);
      written =
          rw (told.count, c.and-done.ensures)
          (both-made _ _ i.written told.bytes (written-more _ _ _ i.told f c.requires.0));
    }

pub returns-clause-count : goal.returns-clause-count
returns-clause-count g c = (told-all c.loop-from.invariant.told c.requires.0 c.loop-from-test.false).0

pub returns-clause-table : goal.returns-clause-table
returns-clause-table g c =
    rw c.requires.1 (told-all c.loop-from.invariant.told c.requires.0 c.loop-from-test.false).1

pub returns-clause-bytes : goal.returns-clause-bytes
returns-clause-bytes g c =
    let i = c.loop-from.invariant in
    let all = told-all i.told c.requires.0 c.loop-from-test.false in
    on_ok_weaker c.loop-from.done (written-all _ _ _ _ all.0) i.written
