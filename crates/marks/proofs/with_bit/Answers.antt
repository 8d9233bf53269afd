-- `marks::with_bit` meets its contract. Assumes nothing.
use mir.Syntax.{w64}
use Rattle.std.proofs.lemmas.Nat.Bits.{bit_at_set_same, bit_at_set_other}
use Rattle.marks.proofs.with_bit.Goals as goal

pub returns : goal.returns
returns c =
    let a = c.args in
    record {
      here = bit_at_set_same w64 a.word a.b c.requires;
      rest = λ i l. bit_at_set_other w64 a.word a.b c.requires i;
    }
