-- Past a word of marks at once: a word with none on, and one with all on. Assumes nothing.
use Prim.Native.Nat.{ℕ, ◌+◌, ◌*◌, ◌/◌, ◌%◌, ◌^◌, ◌<◌}
use mathlib.Core.Path.{◌≡◌, ap, ◌∙◌}
use mathlib.Core.List.{List}
use native.Mathlib.Omega.{arith}
use lib.ListN.{get_or}
use Rattle.std.proofs.lemmas.Nat.Bits.{bit_at_ones}
use Rattle.marks.specs.Marks.{bit_at, Past}

-- the slots of one word have its bits
in-word : (m : List ℕ) (k j w : ℕ) → get_or m (k / 64) 0 ≡ w → j / 64 ≡ k / 64 → bit_at m j ≡ w / 2 ^ (j % 64) % 2
unfolding bit_at
in-word m k j w e h = ap (λ (x : ℕ). x / 2 ^ (j % 64) % 2) (ap (λ (i : ℕ). get_or m i 0) h ∙ e)

pub past_word : (m : List ℕ) (k w at : ℕ) → at ≡ k / 64 → k < 4096 → get_or m at 0 ≡ w → Past m k w (64 * at + 64)
past_word m k w at e h z = record {
  further = omega arith;
  most = omega arith;
  bits = λ j p q. in-word m k j w (rw (← e) z) (omega arith);
}

pub past_one : (m : List ℕ) (k w : ℕ) → k < 4096 → Past m k w (k + 1)
past_one m k w h = record { further = omega arith; most = omega arith; bits = λ j p q. absurd (omega arith) }

-- all bits of the largest word are on
pub all-on : (b : ℕ) → b < 64 → 18446744073709551615 / 2 ^ b % 2 ≡ 1
all-on = bit_at_ones 64
