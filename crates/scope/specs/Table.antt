-- Where each word of the table stands, and how a slot is read and written (document 01, "The table").
use Rattle.std.specs.Prelude.{ℕ, ◌+◌, ◌*◌, ◌-◌, ◌/◌, ◌%◌, ◌≤◌, cond, List, [], ◌∷◌, length, get_or, set, eqb, Option, None}
use Rattle.scope.specs.Numbers.{slots_of}
use Rattle.scope.specs.declared.side.Side.{Side}
use Rattle.scope.specs.declared.side.Side.TheVariants.{Left, Right}
use Rattle.scope.specs.declared.side.Link.{Link}
use Rattle.scope.specs.declared.slot.Slot.{Slot}
use Rattle.scope.specs.declared.slots.Slots.{Slots}

-- word i, counted from 0
abbrev pub word : List ℕ → ℕ → ℕ
word t i = get_or t i 0

-- the four words before the slots
abbrev pub root_word : ℕ
root_word = 0

abbrev pub count_word : ℕ
count_word = 1

abbrev pub change_word : ℕ
change_word = 2

abbrev pub zero_word : ℕ
zero_word = 3

-- how many words there are before the slots, in a slot, and in a table of c slots
abbrev pub head_words : ℕ
head_words = 4

abbrev pub slot_words : ℕ
slot_words = 8

abbrev pub table_words : ℕ → ℕ
table_words c = head_words + slot_words * c

-- a table of n words has c slots if n is 4 + 8c
unfoldable pub slots_in : ℕ → Option Slots
slots_in n = cond (eqb (n % slot_words) head_words) (slots_of (n / slot_words)) None

-- where the words of slot k begin; slots are counted from 1
abbrev pub base : ℕ → ℕ
base k = table_words (k - 1)

-- which of them is the link, and which the register, on a side
abbrev pub link_place : Side → ℕ
link_place Left = 3
link_place Right = 4

abbrev pub register_place : Side → ℕ
register_place Left = 5
register_place Right = 6

-- slot k as it stands
unfoldable pub slot_at : List ℕ → ℕ → Slot
slot_at t k = record {
  state = word t (base k);
  key = word t (base k + 1);
  pieces = word t (base k + 2);
  left = word t (base k + 3);
  right = word t (base k + 4);
  lefth = word t (base k + 5);
  righth = word t (base k + 6);
  last = word t (base k + 7);
}

-- a slot of numbers by their places
abbrev pub slot_of : (ℕ → ℕ) → Slot
slot_of g = record {
  state = g 0;
  key = g 1;
  pieces = g 2;
  left = g 3;
  right = g 4;
  lefth = g 5;
  righth = g 6;
  last = g 7;
}

-- a slot of zeros
abbrev pub zero_slot : Slot
zero_slot = slot_of (λ f. 0)

-- a slot with another record, its links, registers and last word kept
abbrev pub with_record : Slot → ℕ → ℕ → ℕ → Slot
with_record s state key pieces = record {
  state = state;
  key = key;
  pieces = pieces;
  left = s.left;
  right = s.right;
  lefth = s.lefth;
  righth = s.righth;
  last = s.last;
}

-- a slot with other links and registers, its record and last word kept
abbrev pub with_links : Slot → ℕ → ℕ → ℕ → ℕ → Slot
with_links s left right lefth righth = record {
  state = s.state;
  key = s.key;
  pieces = s.pieces;
  left = left;
  right = right;
  lefth = lefth;
  righth = righth;
  last = s.last;
}

-- a slot's son and register on a side
abbrev pub son : Slot → Side → ℕ
son s Left = s.left
son s Right = s.right

abbrev pub register : Slot → Side → ℕ
register s Left = s.lefth
register s Right = s.righth

-- where a link stands: in the root word, or in its holder
unfoldable pub link_at : Link → ℕ
link_at l = cond (eqb l.holder 0) root_word (base l.holder + link_place l.side)

-- where the register on a side of slot k stands
abbrev pub register_at : ℕ → Side → ℕ
register_at k s = base k + register_place s

-- a word to be written, and several one after the other
pub record Write : Type 0 where
  pub place : ℕ
  pub what : ℕ

abbrev pub put : ℕ → ℕ → Write
put i x = record { place = i; what = x }

unfoldable pub written : List ℕ → List Write → List ℕ
written t [] = t
written t (w ∷ ws) = written (set t w.place w.what) ws

-- the words of s, written one after the other into slot k
abbrev pub slot_writes : ℕ → Slot → List Write
slot_writes k s =
    put (base k) s.state
    ∷ put (base k + 1) s.key
    ∷ put (base k + 2) s.pieces
    ∷ put (base k + 3) s.left
    ∷ put (base k + 4) s.right
    ∷ put (base k + 5) s.lefth
    ∷ put (base k + 6) s.righth
    ∷ put (base k + 7) s.last
    ∷ []

unfoldable pub with_slot : List ℕ → ℕ → Slot → List ℕ
with_slot t k s = written t (slot_writes k s)

-- slot k lies whole in the table
pub record InTable (t : List ℕ) (k : ℕ) : Type 0 where
  pub first : 1 ≤ k
  pub whole : table_words k ≤ length t
