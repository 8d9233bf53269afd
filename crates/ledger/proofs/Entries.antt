-- What is asked of a tree in order is what is asked of its records in a list. Assumes nothing.
use Prim.Native.Nat.{ℕ, ◌≤◌}
use mathlib.Core.Path.{◌≡◌, refl, sym, ◌∙◌, ap}
use mathlib.Core.Bool.{false, cond}
use mathlib.Core.Option.{Option, none, some}
use mathlib.Core.List.{List, [], ◌∷◌, ◌++◌, map, map-append, append-nil}
use native.Mathlib.Omega.{arith}
use lib.ListN.{length, length-append}
use lib.Dec.{eqb, ltb}
use borrow.Author.Tests.{eq-eqb, ne_eqb, eqb-true, ltb-true, ltb-false, le-ltb}
use Rattle.scope.proofs.Bools.{by_bool}
use Rattle.scope.specs.Tree.{Batch, Tree, leaf, node, size, in_order, Below, Above, Ordered}
use Rattle.scope.specs.Sums.{total_of}
use Rattle.tree.specs.Seek.{seek, at_key, amend_top}
use Rattle.tree.specs.Without.{without_least, without_top, without_key}
use Rattle.tree.proofs.Keys.Keyed.{by_key, amended_tree}
use Rattle.tree.proofs.Keys.Lowest.{least-order}
use Rattle.tree.proofs.Keys.Grown.{missing, grown}
use Rattle.ledger.specs.Entries.{Entry, lookup, insert, replace, remove, sum_to}
use Rattle.ledger.specs.Sorted.{EachStamp}
use Rattle.ledger.proofs.Lists.{or_else, lookup-append, sum-append, replace-left, replace-right, remove-left}
use Rattle.ledger.proofs.Lists.{remove-right, NoneAfter, each-join, insert-left, insert-right}
use Rattle.ledger.specs.OfTree.{entry_of, entries_of}

-- a node's records are those on its left, its own, and those on its right
pub entries-node : (d : Batch) (a b : ℕ) (l r : Tree)
    → entries_of (node d a b l r) ≡ entries_of l ++ (entry_of d ∷ entries_of r)
unfolding in_order
entries-node d a b l r = map-append entry_of (in_order l) (d ∷ in_order r)

pub lookup-node : (key : ℕ) (d : Batch) (a b : ℕ) (l r : Tree) → lookup key (entries_of (node d a b l r))
    ≡ or_else (lookup key (entries_of l)) (cond (eqb key d.key) (some (entry_of d)) (lookup key (entries_of r)))
unfolding lookup
lookup-node key d a b l r = rw (entries-node d a b l r) (lookup-append key (entries_of l) (entry_of d ∷ entries_of r))

-- a key beyond all of a tree's is not in it
module _ (key : ℕ) where
  absent : (d : Batch) (a b : ℕ) (l r : Tree) → lookup key (entries_of l) ≡ none → (key ≡ d.key → ⊥)
      → lookup key (entries_of r) ≡ none
      → lookup key (entries_of (node d a b l r)) ≡ none
  absent d a b l r p ne q = lookup-node key d a b l r ∙ rw (p, ne_eqb key d.key ne, q) refl

  pub below_none : (m : ℕ) (T : Tree) → Below m T → m ≤ key → lookup key (entries_of T) ≡ none
  unfolding Below
  below_none m leaf h i = unfold in_order lookup in refl
  below_none m (node d a b l r) h i =
      absent d a b l r (below_none m l h.1 i) (λ e. omega (arith, h.0)) (below_none m r h.2 i)

  pub above-none : (m : ℕ) (T : Tree) → Above m T → key ≤ m → lookup key (entries_of T) ≡ none
  unfolding Above
  above-none m leaf h i = unfold in_order lookup in refl
  above-none m (node d a b l r) h i =
      absent d a b l r (above-none m l h.1 i) (λ e. omega (arith, h.0)) (above-none m r h.2 i)

abbrev pub map_entry : Option Batch → Option Entry
map_entry none = none
map_entry (some d) = some (entry_of d)

or-none : (x : Option Entry) → or_else x none ≡ x
or-none none = refl
or-none (some e) = refl

-- THE SEARCH IN AN ORDERED TREE finds what the list has
pub seek-lookup : (key : ℕ) (T : Tree) → Ordered T → lookup key (entries_of T) ≡ map_entry (seek key T)
unfolding Ordered seek
seek-lookup key leaf h = unfold in_order lookup in refl
seek-lookup key (node d a b l r) h =
    by_bool (eqb key d.key)
    (λ e. let none-l = below_none key d.key l h.0 (omega (arith, eqb-true key d.key e)) in
    lookup-node key d a b l r ∙ rw (none-l, e) refl)
    (λ e. by_bool (ltb key d.key)
    (λ f. let none-r = above-none key d.key r h.1 (omega (arith, ltb-true key d.key f)) in
    lookup-node key d a b l r ∙ rw (e, f, none-r) (or-none (lookup key (entries_of l)) ∙ seek-lookup key l h.2))
    (λ f. let none-l = below_none key d.key l h.0 (omega (arith, ltb-false key d.key f)) in
    lookup-node key d a b l r ∙ rw (e, f, none-l) (seek-lookup key r h.3)))

-- the total of a tree is that of its list
pub total-sum : (K : ℕ) (T : Tree) → total_of K T ≡ sum_to K (entries_of T)
unfolding total_of in_order sum_to
total-sum K leaf = refl
total-sum K (node d a b l r) =
    omega (arith, total-sum K l, total-sum K r, ap (sum_to K) (entries-node d a b l r), sum-append K (entries_of l) (entry_of d ∷ entries_of r))

-- a change at the end of the way to a key is one of the list, where it is so there, and the list is left elsewhere
module _ (key : ℕ) (f : Tree → Tree) (op : List Entry → List Entry)
    (op-left : (xs ys : List Entry) → lookup key ys ≡ none → op (xs ++ ys) ≡ op xs ++ ys)
    (op-right : (xs ys : List Entry) → lookup key xs ≡ none → op (xs ++ ys) ≡ xs ++ op ys)
    (nothing : entries_of (f leaf) ≡ op (entries_of leaf))
    (top : (d : Batch) (a b : ℕ) (l r : Tree) → key ≡ d.key → lookup key (entries_of l) ≡ none
    → entries_of (f (node d a b l r)) ≡ entries_of l ++ op (entry_of d ∷ entries_of r)) where
  past : (d : Batch) (r : Tree) → eqb key d.key ≡ false → op (entry_of d ∷ entries_of r) ≡ entry_of d ∷ op (entries_of r)
  past d r e = op-right (entry_of d ∷ []) (entries_of r) (unfold lookup in rw e refl)

  keyed-entries : (T : Tree) → Ordered T → entries_of (at_key key f T) ≡ op (entries_of T)
  unfolding Ordered
  keyed-entries leaf h = unfold at_key in nothing
  keyed-entries (node d a b l r) h =
      by_key key f d a b l r (λ w E U. entries_of U ≡ op (entries_of (node d a b l r)))
      (λ e. let none-l = below_none key d.key l h.0 (omega (arith, eqb-true key d.key e)) in
      top d a b l r (eqb-true key d.key e) none-l
      ∙ sym (rw (entries-node d a b l r) (op-right (entries_of l) (entry_of d ∷ entries_of r) none-l)))
      (λ e g. let none-r = above-none key d.key r h.1 (omega (arith, ltb-true key d.key g)) in
      entries-node d _ b (at_key key f l) r
      ∙ ap (λ (x : List Entry). x ++ (entry_of d ∷ entries_of r)) (keyed-entries l h.2)
      ∙ sym (rw (entries-node d a b l r)
      (op-left (entries_of l) (entry_of d ∷ entries_of r) (unfold lookup in rw (e, none-r) refl))))
      (λ e g. let none-l = below_none key d.key l h.0 (omega (arith, ltb-false key d.key g)) in
      entries-node d a _ l (at_key key f r)
      ∙ ap (λ (x : List Entry). entries_of l ++ (entry_of d ∷ x)) (keyed-entries r h.3)
      ∙ sym (rw (entries-node d a b l r) (op-right (entries_of l) (entry_of d ∷ entries_of r) none-l
      ∙ ap (λ (x : List Entry). entries_of l ++ x) (past d r e))))

-- THE AMENDED TREE has the list with that record replaced
module _ (key pieces state : ℕ) where
  abbrev new : Entry
  new = record { key = key; pieces = pieces; state = state }

  pub amended-entries : (T : Tree) → Ordered T → entries_of (amended_tree key pieces state T) ≡ replace new (entries_of T)
  amended-entries T h =
      keyed-entries key (amend_top pieces state) (replace new) (replace-left new) (replace-right new)
      (unfold amend_top in_order replace in refl)
      (λ d a b l r e q. unfold amend_top replace in entries-node _ a b l r ∙ rw (eq-eqb key d.key e, e) refl)
      T h

-- THE TREE WITHOUT A RECORD has the list with that record removed
without-top : (d : Batch) (a b : ℕ) (l r : Tree) → entries_of (without_top (node d a b l r)) ≡ entries_of l ++ entries_of r
unfolding without_top
without-top d a b leaf r = unfold in_order in refl
without-top d a b (node e x y l m) leaf = unfold in_order in sym (append-nil _)
without-top d a b (node e x y l m) (node g u v p q) =
    entries-node _ a _ (node e x y l m) (without_least g u v p q)
    ∙ ap (λ (z : List Batch). entries_of (node e x y l m) ++ map entry_of z) (sym (least-order g u v p q))

pub without-entries : (key : ℕ) (T : Tree) → Ordered T → entries_of (without_key key T) ≡ remove key (entries_of T)
without-entries key T h =
    keyed-entries key without_top (remove key) (remove-left key) (remove-right key)
    (unfold without_top in_order remove in refl)
    (λ d a b l r e q. unfold remove in without-top d a b l r ∙ rw (eq-eqb key d.key e) refl)
    T h

pub entries-size : (T : Tree) → length (entries_of T) ≡ size T
unfolding size in_order
entries-size leaf = refl
entries-size (node d a b l r) =
    ap length (entries-node d a b l r) ∙ length-append (entries_of l) (entry_of d ∷ entries_of r)
    ∙ omega (arith, entries-size l, entries-size r)

-- what holds of every key of a tree holds of every stamp of its list
pub each-key : (P : ℕ → Type 0) (Q : Tree → Type 0)
    → ((d : Batch) (a b : ℕ) (l r : Tree) → Q (node d a b l r) → P d.key × Q l × Q r)
    → (T : Tree) → Q T → EachStamp P (entries_of T)
each-key P Q parts leaf h = unfold in_order in tt
each-key P Q parts (node d a b l r) h =
    let p = parts d a b l r h in
    rw (entries-node d a b l r)
    (each-join P (entries_of l) (entry_of d ∷ entries_of r) (each-key P Q parts l p.1) (p.0, each-key P Q parts r p.2))

below-before : (key m : ℕ) (T : Tree) → Below m T → m ≤ key → NoneAfter key (entries_of T)
unfolding Below
below-before key m T h i =
    each-key (λ stamp. ltb key stamp ≡ false) (Below m)
    (λ d a b l r k. (le-ltb key d.key (omega (arith, k.0)), k.1, k.2)) T h

-- THE GROWN TREE has the list with the new record inserted
module _ (new : Batch) where
  pub grown-entries : (T : Tree) → seek new.key T ≡ none → Ordered T
      → entries_of (grown new T) ≡ insert (entry_of new) (entries_of T)
  unfolding Ordered at_key
  grown-entries leaf e h = unfold in_order insert in refl
  grown-entries (node d a b l r) e h =
      missing new.key d a b l r e
      (λ p left right. by_bool (ltb new.key d.key)
      (λ f. simp (p, f) (entries-node d _ b (grown new l) r
      ∙ ap (λ (x : List Entry). x ++ (entry_of d ∷ entries_of r)) (grown-entries l (left f) h.2)
      ∙ sym (rw (entries-node d a b l r) (insert-left (entry_of new) (entries_of l) (entry_of d) (entries_of r) f))))
      (λ f. simp (p, f) (entries-node d a _ l (grown new r)
      ∙ ap (λ (x : List Entry). entries_of l ++ (entry_of d ∷ x)) (grown-entries r (right f) h.3)
      ∙ sym (rw (entries-node d a b l r) (insert-right (entry_of new) (entries_of l) (entry_of d ∷ entries_of r)
      (below-before new.key d.key l h.0 (omega (arith, ltb-false new.key d.key f)))
      ∙ ap (λ (x : List Entry). entries_of l ++ x) (behind d r f))))))
    where
      behind : (d : Batch) (r : Tree) → ltb new.key d.key ≡ false
          → insert (entry_of new) (entry_of d ∷ entries_of r) ≡ entry_of d ∷ insert (entry_of new) (entries_of r)
      behind d r f = unfold insert in rw f refl
