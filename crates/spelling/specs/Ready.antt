-- What the functions of `words` ask of a table, and what an open gate tells. Assumes nothing: these are statements.
use Rattle.std.specs.Prelude.{ℕ, ◌≤◌, ◌≡◌, List, length}
use Rattle.scope.specs.Numbers.{most_slots}
use Rattle.scope.specs.Table.{head_words, table_words, word, root_word, count_word}
use Rattle.scope.specs.Post.{free_slot}

-- the words of the header are there
abbrev pub Headed : List ℕ → Type 0
Headed t = head_words ≤ length t

-- a table of c slots
pub record Sized (t : List ℕ) (c : ℕ) : Type 0 where
  pub room : table_words c ≡ length t
  pub some : 1 ≤ c
  pub most : c ≤ most_slots

-- a table of c slots with a good header
pub record Ready (t : List ℕ) (c : ℕ) : Type 0 where
  pub sized : Sized t c
  pub root : word t root_word ≤ c
  pub count : word t count_word ≤ c

-- the lowest free slot, 0 for none
pub record Free (t : List ℕ) (c r : ℕ) : Type 0 where
  pub is : r ≡ free_slot t c
  pub most : r ≤ c
