-- `stand_input::read_input` meets its contract: what two reads gave, one after the other, came from the reader. Assumes nothing.
use Rattle.std.proofs.Common.{arith}
use Rattle.std.proofs.Math.Seq.{take-add}
use Rattle.std.proofs.KnownBytes.{Consumes-trans}
use Rattle.stand_input.proofs.read_input.Goals as goal

pub loop-n-preserved : goal.loop-n-preserved
loop-n-preserved g c =
    let n = c.loop-n.n in
    let more = c.in-Ok.count in
    let buf = c.read_at.new.buf in
    record {
      within = omega (arith, c.in-Ok.ensures.count_in_bounds);
      room = omega arith;
      bytes =
          rw (take-add n more buf, c.in-Ok.ensures.buf_unchanged)
          (Consumes-trans _ _ _ _ _ c.loop-n.invariant.bytes c.in-Ok.ensures.bytes);
    }
