-- The mark bits of 4,096 slots in 64 words. Assumes nothing: these are definitions.
use Rattle.std.specs.Prelude.{ℕ, ◌/◌, ◌%◌, ◌^◌, ◌≤◌, ◌<◌, ◌≡◌, cond, List, get_or, eqb}

-- x is w with y for bit b, and every other of the 64 bits as it was
pub record WordPut (y w b x : ℕ) : Type 0 where
  pub here : x / 2 ^ b % 2 ≡ y
  pub rest : (i : ℕ) → i < 64 → (i ≡ b → ⊥) → x / 2 ^ i % 2 ≡ w / 2 ^ i % 2

-- the mark of slot k: 0 or 1
unfoldable pub bit_at : List ℕ → ℕ → ℕ
bit_at m k = get_or m (k / 64) 0 / 2 ^ (k % 64) % 2

abbrev pub NoneMarked : List ℕ → Type 0
NoneMarked m = (k : ℕ) → k < 4096 → bit_at m k ≡ 0

-- m' is m with y for the bit of slot k, and every other slot and every other word as it was
pub record BitPut (y : ℕ) (m : List ℕ) (k : ℕ) (m' : List ℕ) : Type 0 where
  pub bits : (j : ℕ) → j < 4096 → bit_at m' j ≡ cond (eqb j k) y (bit_at m j)
  pub words : (i : ℕ) → (i ≡ k / 64 → ⊥) → get_or m' i 0 ≡ get_or m i 0

-- m' is m with slot k marked and every other slot as it was
abbrev pub Marked : List ℕ → ℕ → List ℕ → Type 0
Marked m k m' = BitPut 1 m k m'

abbrev pub Unmarked : List ℕ → ℕ → List ℕ → Type 0
Unmarked m k m' = BitPut 0 m k m'

-- between k and r stand only slots whose bits are those of the given word
pub record Past (m : List ℕ) (k whole r : ℕ) : Type 0 where
  pub further : k < r
  pub most : r ≤ 4096
  pub bits : (j : ℕ) → k < j → j < r → bit_at m j ≡ whole / 2 ^ (j % 64) % 2
