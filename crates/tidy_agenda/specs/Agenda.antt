-- The slots at which a rule may be due, as bits. Assumes nothing: these are statements.
use Rattle.std.specs.Prelude.{ℕ, ◌/◌, ◌%◌, ◌^◌, ◌<◌, ◌≡◌, cond, List, get_or, eqb, Option, Some, None}
use Rattle.marks.specs.Marks.{bit_at, NoneMarked}

-- the word above says in which of the 64 words a slot is listed
pub record AboveTells (m : List ℕ) (above : ℕ) : Type 0 where
  pub bit : (i : ℕ) → i < 64 → above / 2 ^ i % 2 ≡ cond (eqb (get_or m i 0) 0) 0 1

-- bit b of w, a number of d bits, is on, and none below it
pub record LowestBit (w d b : ℕ) : Type 0 where
  pub inside : b < d
  pub on : w / 2 ^ b % 2 ≡ 1
  pub off : (j : ℕ) → j < b → w / 2 ^ j % 2 ≡ 0

-- r is the lowest slot that is listed
pub record LowestSlot (m : List ℕ) (r : ℕ) : Type 0 where
  pub inside : r < 4096
  pub listed : bit_at m r ≡ 1
  pub below : (j : ℕ) → j < r → bit_at m j ≡ 0

abbrev pub Lowest : List ℕ → Option ℕ → Type 0
Lowest m (Some r) = LowestSlot m r
Lowest m None = NoneMarked m
