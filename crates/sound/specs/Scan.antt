-- What the scan of the soundness check promises, and the pass after it. Assumes nothing: these are statements.
use Rattle.std.specs.Prelude.{ℕ, ◌+◌, ◌≤◌, ◌<◌, ◌≡◌, Bool, true, false, ◌&&◌, ◌||◌, List, eqb, ltb}
use Rattle.scope.specs.Numbers.{most_slots}
use Rattle.scope.specs.Table.{slot_at}
use Rattle.scope.specs.Fit.{fit_slot, blank_slot}
use Rattle.scope.specs.Tree.{Tree, size, times}
use Rattle.scope.specs.Sound.{Spells}
use Rattle.scope.specs.declared.slot.Slot.{Slot}
use Rattle.scope.specs.declared.outcome.Visit.{Visit}
use Rattle.spelling.specs.Ready.{Sized}
use Rattle.tree.specs.Between.{Between}
use Rattle.marks.specs.Marks.{bit_at, Marked}
use Rattle.std.specs.Prelude.{Option, Some, None}

-- a table of c slots, and a link of it
pub record Looking (t : List ℕ) (c x : ℕ) : Type 0 where
  pub sized : Sized t c
  pub link : x ≤ c

-- and how many slots may still be reached
pub record Scanning (t : List ℕ) (c more x : ℕ) : Type 0 where
  pub looking : Looking t c x
  pub few : more ≤ most_slots

-- the slot is fit and its key lies between two bounds
unfoldable pub in_place : ℕ → Slot → ℕ → ℕ → Bool
in_place c s low high = fit_slot c s && ltb low s.key && ltb s.key high

-- slot x may be entered
pub record Welcome (t m : List ℕ) (c x low high : ℕ) : Type 0 where
  pub free : bit_at m x ≡ 0
  pub place : in_place c (slot_at t x) low high ≡ true

-- it was entered, and has these links and this key
pub record EnteredSlot (t m m' : List ℕ) (c x low high l r k : ℕ) : Type 0 where
  pub welcome : Welcome t m c x low high
  pub mark : Marked m x m'
  pub left : l ≡ (slot_at t x).left
  pub right : r ≡ (slot_at t x).right
  pub key : k ≡ (slot_at t x).key

abbrev pub VisitSays : List ℕ → List ℕ → List ℕ → ℕ → ℕ → ℕ → ℕ → Option Visit → Type 0
VisitSays t m m' c x low high None = Welcome t m c x low high → ⊥
VisitSays t m m' c x low high (Some v) = EnteredSlot t m m' c x low high v.left v.right v.key

-- the tree hangs at link x, its keys in order, each of its slots reached once and not marked before
pub record Fine (t m : List ℕ) (c x low high : ℕ) (T : Tree) : Type 0 where
  pub reached : Spells t c x T
  pub keys : Between low high T
  pub free : (k : ℕ) → k < 4096 → bit_at m k + times k T ≤ 1

-- a scan that was let reach `more` slots left n of them
pub record Good (t m m' : List ℕ) (c more x low high n : ℕ) : Type 0 where
  pub tree : Tree
  pub fine : Fine t m c x low high tree
  pub used : size tree + n ≡ more
  pub marked : (k : ℕ) → k < 4096 → bit_at m' k ≡ bit_at m k + times k tree

-- it finds damage only where no tree of so few slots hangs
abbrev pub Scanned : List ℕ → List ℕ → List ℕ → ℕ → ℕ → ℕ → ℕ → ℕ → Option ℕ → Type 0
Scanned t m m' c more x low high None = (T : Tree) → Fine t m c x low high T → size T ≤ more → ⊥
Scanned t m m' c more x low high (Some n) = Good t m m' c more x low high n

-- slot k is marked, or blank
unfoldable pub settled_at : List ℕ → List ℕ → ℕ → Bool
settled_at t m k = eqb (bit_at m k) 1 || blank_slot (slot_at t k)

-- slot k is among the c slots and is not
pub record Unsettled (t m : List ℕ) (c k : ℕ) : Type 0 where
  pub first : 1 ≤ k
  pub last : k ≤ c
  pub not_so : settled_at t m k ≡ false

abbrev pub RestIs : List ℕ → List ℕ → ℕ → Bool → Type 0
RestIs t m c true = (k : ℕ) → 1 ≤ k → k ≤ c → settled_at t m k ≡ true
RestIs t m c false = (k : ℕ) × Unsettled t m c k
