-- `marks::without_bit` meets its contract. Assumes nothing.
use mir.Syntax.{w64}
use Rattle.std.proofs.lemmas.Nat.Bits.{bit_at_clear_same, bit_at_clear_other}
use Rattle.marks.proofs.without_bit.Goals as goal

pub returns : goal.returns
returns c =
    let a = c.args in
    record {
      here = bit_at_clear_same w64 a.word a.b c.requires;
      rest = bit_at_clear_other w64 a.word a.b c.requires;
    }
