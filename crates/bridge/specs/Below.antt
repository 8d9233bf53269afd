-- A tree that hangs at a link of a table, and a change of the table below that link. Assumes nothing: these are statements.
use Rattle.std.specs.Prelude.{ℕ, ◌≤◌, ◌<◌, ◌≡◌, cond, List, eqb}
use Rattle.scope.specs.Table.{head_words, word, root_word, slot_at, link_at}
use Rattle.scope.specs.Tree.{Tree, times}
use Rattle.scope.specs.Sound.{Spells}
use Rattle.scope.specs.declared.side.Link.{Link}
use Rattle.scope.specs.declared.slot.Slot.{Slot}
use Rattle.spelling.specs.Ready.{Sized}
use Rattle.scope.specs.Edits.{son_on, register_on}
use Rattle.bridge.specs.Edit.{with_part}

-- the tree S hangs at link l: each of its slots stands in it once, and the holder not at all
pub record Hangs (t : List ℕ) (c : ℕ) (l : Link) (S : Tree) : Type 0 where
  pub sized : Sized t c
  pub holder : l.holder ≤ c
  pub most : word t (link_at l) ≤ c
  pub spells : Spells t c (word t (link_at l)) S
  pub once : (k : ℕ) → times k S ≤ 1
  pub apart : times l.holder S ≡ 0

-- slot k with another number in its link, if it holds the link
abbrev pub slot_relinked : Link → ℕ → ℕ → Slot → Slot
slot_relinked l x k y = cond (eqb k l.holder) (with_part (son_on l.side) x y) y

-- from t to t' only the link, the slots of S below it and word 0 changed, and what hangs there now is S'
pub record ChangedBelow (t t' : List ℕ) (c : ℕ) (l : Link) (S S' : Tree) : Type 0 where
  pub sized : Sized t' c
  pub top : ℕ
  pub first : 1 ≤ top
  pub most : top ≤ c
  pub spells : Spells t' c top S'
  pub slots : (k : ℕ) → 1 ≤ k → times k S ≡ 0 → slot_at t' k ≡ slot_relinked l top k (slot_at t k)
  pub root : word t' root_word ≡ cond (eqb l.holder 0) top (word t root_word)
  pub head : (i : ℕ) → 1 ≤ i → i < head_words → word t' i ≡ word t i

-- slot k with 0 in its link and in the register beside it, if it holds the link
abbrev pub emptied : Link → ℕ → Slot → Slot
emptied l k y = cond (eqb k l.holder) (with_part (register_on l.side) 0 (with_part (son_on l.side) 0 y)) y

-- the same for a link that may also become empty: then the register beside it is 0 too
pub record Cut (t t' : List ℕ) (c : ℕ) (l : Link) (S S' : Tree) : Type 0 where
  pub sized : Sized t' c
  pub top : ℕ
  pub most : top ≤ c
  pub spells : Spells t' c top S'
  pub slots : (k : ℕ) → 1 ≤ k → times k S ≡ 0
      → slot_at t' k ≡ cond (eqb top 0) (emptied l k (slot_at t k)) (slot_relinked l top k (slot_at t k))
  pub root : word t' root_word ≡ cond (eqb l.holder 0) top (word t root_word)
  pub head : (i : ℕ) → 1 ≤ i → i < head_words → word t' i ≡ word t i
