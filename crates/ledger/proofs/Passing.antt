-- The last keys passed on the way to a stamp that is absent from an ordered tree are its neighbours in the list. Assumes nothing.
use Prim.Native.Nat.{ℕ, ◌≤◌, ◌<◌, max}
use mathlib.Core.Path.{◌≡◌, refl, sym, ◌∙◌}
use mathlib.Core.Bool.{cond}
use mathlib.Core.Option.{none}
use mathlib.Core.List.{List, [], ◌∷◌, ◌++◌}
use native.Mathlib.Omega.{arith}
use lib.Dec.{eqb, ltb}
use borrow.Author.Tests.{ne_eqb, eqb-true, eqb-false, ltb-true, ltb-false, lt-ltb, le-ltb}
use Rattle.scope.proofs.Bools.{by_bool}
use Rattle.scope.specs.Tree.{Batch, Tree, leaf, node, in_order, Below, Above, Ordered}
use Rattle.scope.specs.Walk.{none_passed, passing}
use Rattle.scope.specs.declared.side.Side.TheVariants.{Left, Right}
use Rattle.scope.specs.declared.outcome.Passed.{Passed}
use Rattle.tree.specs.Seek.{seek, passed_to}
use Rattle.tree.proofs.Keys.Grown.{missing}
use Rattle.ledger.specs.Entries.{Entry, below, above}
use Rattle.ledger.specs.Sorted.{EachStamp}
use Rattle.ledger.specs.OfTree.{entry_of, entries_of}
use Rattle.ledger.specs.Ledger.{neighbours}
use Rattle.ledger.proofs.Lists.{each_map}
use Rattle.ledger.proofs.Entries.{entries-node}
use Rattle.ledger.proofs.Sorted.{below_all, above-all}

-- the first of two numbers that is not 0
abbrev first_of : ℕ → ℕ → ℕ
first_of m n = cond (eqb m 0) n m

first-none : (m : ℕ) → first_of m 0 ≡ m
first-none m = by_bool (eqb m 0) (λ z. rw z (sym (eqb-true m 0 z))) (λ z. rw z refl)

first-assoc : (m n o : ℕ) → first_of m (first_of n o) ≡ first_of (first_of m n) o
first-assoc m n o = by_bool (eqb m 0) (λ e. rw e refl) (λ e. rw e (rw e refl))

-- two passed keys, one by one
both-passed : (p : Passed) (low high : ℕ) → p.below ≡ low → p.above ≡ high → p ≡ record { below = low; above = high }
both-passed p low high e f = rw (← e, ← f) refl

-- two lists, one after the other
module _ (key : ℕ) where
  below-append : (xs ys : List Entry) → below key (xs ++ ys) ≡ max (below key xs) (below key ys)
  unfolding below
  below-append [] ys = omega arith
  below-append (x ∷ xs) ys =
      by_bool (ltb x.key key)
      (λ p. rw p (omega (arith, below-append xs ys))) (λ p. rw p (below-append xs ys))

  above-append : (xs ys : List Entry) → above key (xs ++ ys) ≡ first_of (above key xs) (above key ys)
  unfolding above
  above-append [] ys = refl
  above-append (x ∷ xs) ys =
      by_bool (ltb key x.key)
      (λ p. rw p (rw (ne_eqb x.key 0 (λ e. omega (arith, ltb-true key x.key p))) refl))
      (λ p. rw p (above-append xs ys))

  -- lists that lie on one side of the key
  none_below : (es : List Entry) → EachStamp (λ stamp. key ≤ stamp) es → below key es ≡ 0
  unfolding below
  none_below [] h = refl
  none_below (e ∷ es) h = rw (le-ltb e.key key h.0) (none_below es h.1)

  none_above : (es : List Entry) → EachStamp (λ stamp. stamp ≤ key) es → above key es ≡ 0
  unfolding above
  none_above [] h = refl
  none_above (e ∷ es) h = rw (le-ltb key e.key h.0) (none_above es h.1)

  below-most : (m : ℕ) (es : List Entry) → EachStamp (λ stamp. stamp ≤ m) es → below key es ≤ m
  unfolding below
  below-most m [] h = omega arith
  below-most m (e ∷ es) h =
      by_bool (ltb e.key key)
      (λ p. rw p (omega (arith, h.0, below-most m es h.1))) (λ p. rw p (below-most m es h.1))

-- every key of a tree is at least m
abbrev AtLeast : ℕ → Tree → Type 0
AtLeast m leaf = Unit {0}
AtLeast m (node d a b l r) = (m ≤ d.key) × AtLeast m l × AtLeast m r

at_least_0 : (T : Tree) → AtLeast 0 T
at_least_0 leaf = tt
at_least_0 (node d a b l r) = (omega arith, at_least_0 l, at_least_0 r)

above-at-least : (m : ℕ) (T : Tree) → Above m T → AtLeast m T
unfolding Above
above-at-least m leaf h = tt
above-at-least m (node d a b l r) h = (omega (arith, h.0), above-at-least m l h.1, above-at-least m r h.2)

-- THE LAST KEYS PASSED in an ordered tree that has not the key
module _ (key : ℕ) where
  -- what lies on either side of a node
  left-up-to : (m : ℕ) (T : Tree) → Below m T → (k : ℕ) → m ≤ k → EachStamp (λ stamp. stamp ≤ k) (entries_of T)
  left-up-to m T h k i = each_map (λ stamp. stamp < m) (λ stamp. stamp ≤ k) (entries_of T) (λ stamp l. omega arith) (below_all m T h)

  right-from : (m : ℕ) (T : Tree) → Above m T → key ≤ m → EachStamp (λ stamp. key ≤ stamp) (entries_of T)
  right-from m T h i = each_map (λ stamp. m < stamp) (λ stamp. key ≤ stamp) (entries_of T) (λ stamp l. omega arith) (above-all m T h)

  -- the neighbours in a node's list, by the side on which the key would be
  module _ (d : Batch) (a b : ℕ) (l r : Tree) (low : Below d.key l) (high : Above d.key r) where
    below-node : below key (entries_of (node d a b l r))
        ≡ max (below key (entries_of l)) (below key (entry_of d ∷ entries_of r))
    below-node = rw (entries-node d a b l r) (below-append key (entries_of l) (entry_of d ∷ entries_of r))

    above-node : above key (entries_of (node d a b l r))
        ≡ first_of (above key (entries_of l)) (above key (entry_of d ∷ entries_of r))
    above-node = rw (entries-node d a b l r) (above-append key (entries_of l) (entry_of d ∷ entries_of r))

    below_left : key < d.key → below key (entries_of (node d a b l r)) ≡ below key (entries_of l)
    unfolding below
    below_left i =
        let none-r = none_below key (entries_of r) (right-from d.key r high (omega arith)) in
        below-node ∙ rw (le-ltb d.key key (omega arith), none-r) (omega arith)

    below_right : d.key < key → below key (entries_of (node d a b l r)) ≡ max d.key (below key (entries_of r))
    unfolding below
    below_right i =
        let most-l = below-most key d.key (entries_of l) (left-up-to d.key l low d.key (omega arith)) in
        below-node ∙ rw (lt-ltb d.key key i) (omega (arith, most-l))

    above-left : key < d.key → above key (entries_of (node d a b l r)) ≡ first_of (above key (entries_of l)) d.key
    unfolding above
    above-left i = above-node ∙ rw (lt-ltb key d.key i) refl

    above-right : d.key < key → above key (entries_of (node d a b l r)) ≡ above key (entries_of r)
    unfolding above
    above-right i =
        let none-l = none_above key (entries_of l) (left-up-to d.key l low key (omega arith)) in
        above-node ∙ rw (none-l, le-ltb key d.key (omega arith)) refl

  passed-below : (T : Tree) (p : Passed) → Ordered T → seek key T ≡ none → AtLeast p.below T
      → (passed_to key T p).below ≡ max p.below (below key (entries_of T))
  unfolding Ordered passed_to
  passed-below leaf p h e i = unfold in_order below in omega arith
  passed-below (node d a b l r) p h e i =
      missing key d a b l r e
      (λ q left right. by_bool (ltb key d.key)
      (λ f. simp (q, f) (rw (below_left d a b l r h.0 h.1 (ltb-true key d.key f))
      (passed-below l (passing Left d.key p) h.2 (left f) i.1)))
      (λ f. let less : d.key < key = omega (arith, ltb-false key d.key f, eqb-false key d.key q) in
      let ih = passed-below r (passing Right d.key p) h.3 (right f) (above-at-least d.key r h.1) in
      simp (q, f) (rw (below_right d a b l r h.0 h.1 less, ih) (omega (arith, i.0)))))

  passed-above : (T : Tree) (p : Passed) → Ordered T → seek key T ≡ none
      → (passed_to key T p).above ≡ first_of (above key (entries_of T)) p.above
  unfolding Ordered passed_to
  passed-above leaf p h e = unfold in_order above in refl
  passed-above (node d a b l r) p h e =
      missing key d a b l r e
      (λ q left right. by_bool (ltb key d.key)
      (λ f. let more = ltb-true key d.key f in
      let some : first_of d.key p.above ≡ d.key = rw (ne_eqb d.key 0 (λ z. omega arith)) refl in
      simp (q, f) (passed-above l (passing Left d.key p) h.2 (left f)
      ∙ sym (rw (above-left d a b l r h.0 h.1 more, ← first-assoc (above key (entries_of l)) d.key p.above, some) refl)))
      (λ f. let less : d.key < key = omega (arith, ltb-false key d.key f, eqb-false key d.key q) in
      simp (q, f) (rw (above-right d a b l r h.0 h.1 less)
      (passed-above r (passing Right d.key p) h.3 (right f)))))

  pub passed-neighbours : (T : Tree) → Ordered T → seek key T ≡ none → passed_to key T none_passed ≡ neighbours key (entries_of T)
  passed-neighbours T h e =
      both-passed (passed_to key T none_passed) (below key (entries_of T)) (above key (entries_of T))
      (passed-below T none_passed h e (at_least_0 T) ∙ omega arith)
      (passed-above T none_passed h e ∙ first-none (above key (entries_of T)))
