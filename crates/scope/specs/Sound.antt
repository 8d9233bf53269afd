-- When a table is sound: once as a test that computes, once as a statement (document 01, "The table").
use Rattle.std.specs.Prelude.{ℕ, zero, suc, ◌≤◌, ◌≡◌, Bool, true, false, cond, ◌&&◌, ◌||◌, List, eqb}
use Rattle.std.proofs.Math.Option.{Option, none, some}
use Rattle.scope.specs.Table.{word, root_word, count_word, slot_at}
use Rattle.scope.specs.Fit.{fit_slot, blank_slot, header_ok}
use Rattle.scope.specs.Tree.{Batch, Tree, leaf, node, size, times, ordered, Ordered}

-- the record in slot k
abbrev pub batch_at : List ℕ → ℕ → Batch
batch_at t k =
    record { slot = k; key = (slot_at t k).key; pieces = (slot_at t k).pieces; state = (slot_at t k).state }

-- a record over two sons that are both there
abbrev pub join : Batch → ℕ → ℕ → Option Tree → Option Tree → Option Tree
join d a b none r = none
join d a b (some l) none = none
join d a b (some l) (some r) = some (node d a b l r)

-- what hangs at link x, at most `deep` slots deep; none where a slot is not fit or lies deeper
unfoldable pub tree_of : List ℕ → ℕ → ℕ → ℕ → Option Tree
tree_of t c zero x = cond (eqb x 0) (some leaf) none
tree_of t c (suc deep) x =
    cond (eqb x 0) (some leaf)
    (cond (fit_slot c (slot_at t x))
    (join (batch_at t x) (slot_at t x).lefth (slot_at t x).righth
    (tree_of t c deep (slot_at t x).left) (tree_of t c deep (slot_at t x).right))
    none)

-- what hangs at the root
abbrev pub root_tree : List ℕ → ℕ → Option Tree
root_tree t c = tree_of t c c (word t root_word)

-- slot k is reached once, or it is not reached and is blank
unfoldable pub slot_ok : List ℕ → Tree → ℕ → Bool
slot_ok t T k = eqb (times k T) 1 || (eqb (times k T) 0 && blank_slot (slot_at t k))

-- so is each of the slots 1 to k
unfoldable pub slots_ok : List ℕ → Tree → ℕ → Bool
slots_ok t T zero = true
slots_ok t T (suc k) = slot_ok t T (suc k) && slots_ok t T k

-- the records are as many as word 1 says, in order, each slot reached once, and the others blank
unfoldable pub sound_tree : List ℕ → ℕ → Option Tree → Bool
sound_tree t c none = false
sound_tree t c (some T) = (eqb (size T) (word t count_word) && ordered T) && slots_ok t T c

-- the table of c slots is sound
unfoldable pub sound_table : List ℕ → ℕ → Bool
sound_table t c = header_ok c t && sound_tree t c (root_tree t c)

-- the tree of a sound table
abbrev pub or_leaf : Option Tree → Tree
or_leaf none = leaf
or_leaf (some T) = T

abbrev pub tree_in : List ℕ → ℕ → Tree
tree_in t c = or_leaf (root_tree t c)

-- as statements: slot x is fit and holds this record and these registers, and L and R hold of its links
pub record Top (t : List ℕ) (c x : ℕ) (d : Batch) (a b : ℕ) (L R : Type 0) : Type 0 where
  pub there : 1 ≤ x
  pub fit : fit_slot c (slot_at t x) ≡ true
  pub holds : d ≡ batch_at t x
  pub lefth : a ≡ (slot_at t x).lefth
  pub righth : b ≡ (slot_at t x).righth
  pub left : L
  pub right : R

-- the words spell the tree from link x on
unfoldable pub Spells : List ℕ → ℕ → ℕ → Tree → Type 0
Spells t c x leaf = x ≡ 0
Spells t c x (node d a b l r) =
    Top t c x d a b (Spells t c (slot_at t x).left l) (Spells t c (slot_at t x).right r)

-- the table of c slots is sound
pub record Sound (t : List ℕ) (c : ℕ) : Type 0 where
  pub header : header_ok c t ≡ true
  pub tree : Tree
  pub reached : Spells t c (word t root_word) tree
  pub once : (k : ℕ) → 1 ≤ k → k ≤ c → times k tree ≤ 1
  pub count : size tree ≡ word t count_word
  pub order : Ordered tree
  pub rest : (k : ℕ) → 1 ≤ k → k ≤ c → times k tree ≡ 0 → blank_slot (slot_at t k) ≡ true
