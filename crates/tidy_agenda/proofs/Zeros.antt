-- The lowest bit of a word. Assumes nothing.
use Prim.Native.Nat.{ℕ, ◌^◌, ◌<◌}
use mathlib.Core.Path.{◌≡◌}
use native.Mathlib.Omega.{arith}
use lib.Count.{count_trailing_zeros}
use mir.Syntax.{w64}
use Rattle.std.proofs.lemmas.Nat.Bits.{bit_at-trailing_zeros}
use Rattle.tidy_agenda.specs.Agenda.{LowestBit}

-- the zeros of a word that is not 0
pub lowest-bit : (w : ℕ) → w < 2 ^ 64 → (w ≡ 0 → ⊥) → LowestBit w 64 (count_trailing_zeros 64 w)
lowest-bit w l ne =
    let z = bit_at-trailing_zeros w64 w (omega arith) l in record { inside = z.0; on = z.1; off = z.2 }
