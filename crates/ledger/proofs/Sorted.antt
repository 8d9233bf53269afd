-- A ledger is sorted by stamp, and every call leaves it so; the records of an ordered tree are sorted. Assumes nothing.
use Prim.Native.Nat.{ℕ, ◌<◌}
use mathlib.Core.Path.{◌≡◌, refl}
use mathlib.Core.Bool.{cond}
use mathlib.Core.Option.{Option, none, some}
use mathlib.Core.List.{List, [], ◌∷◌, ◌++◌}
use native.Mathlib.Omega.{arith}
use lib.ListN.{length}
use lib.Dec.{eqb, ltb}
use borrow.Author.Tests.{eqb-true, eqb-false, ltb-true, ltb-false}
use Rattle.scope.proofs.Bools.{by_bool}
use Rattle.scope.specs.Numbers.{last_change}
use Rattle.scope.specs.Tree.{Tree, leaf, node, in_order, Below, Above, Ordered}
use Rattle.scope.specs.Fit.{record_ok}
use Rattle.scope.specs.Calls.{Call, Start, Check, Find, Post, Amend, Drop, Rank, Total, Worth, Fire, Tidy}
use Rattle.ledger.specs.Entries.{Entry, lookup, insert, replace, remove}
use Rattle.ledger.specs.Sorted.{EachStamp, AllAfter, Sorted}
use Rattle.ledger.specs.OfTree.{entry_of, entries_of}
use Rattle.ledger.specs.Ledger.{Ledger, Entered, entry, entered, on_entry, post_in, amend_in, drop_in}
use Rattle.ledger.specs.Sequence.{ledger_after, ledger_after_all}
use Rattle.ledger.proofs.Lists.{not-here, each-join, each_map}
use Rattle.ledger.proofs.Entries.{entries-node, each-key}

-- what comes after a stamp comes after every smaller one
all-less : (k m : ℕ) (xs : List Entry) → k < m → AllAfter m xs → AllAfter k xs
all-less k m xs l h = each_map (λ stamp. m < stamp) (λ stamp. k < stamp) xs (λ stamp i. omega arith) h

-- the keys of a tree between two stamps
pub above-all : (k : ℕ) (T : Tree) → Above k T → AllAfter k (entries_of T)
unfolding Above
above-all k = each-key (λ stamp. k < stamp) (Above k) (λ d a b l r h. h)

abbrev pub AllBefore : ℕ → List Entry → Type 0
AllBefore key = EachStamp (λ stamp. stamp < key)

pub below_all : (k : ℕ) (T : Tree) → Below k T → AllBefore k (entries_of T)
unfolding Below
below_all k = each-key (λ stamp. stamp < k) (Below k) (λ d a b l r h. h)

-- THE RECORDS OF AN ORDERED TREE are sorted
sorted-join : (xs : List Entry) (e : Entry) (ys : List Entry) → AllBefore e.key xs → Sorted xs → AllAfter e.key ys
    → Sorted ys → Sorted (xs ++ (e ∷ ys))
sorted-join [] e ys b s a t = (a, t)
sorted-join (x ∷ xs) e ys b s a t = (
  each-join (λ stamp. x.key < stamp) xs (e ∷ ys) s.0 (b.0, all-less x.key e.key ys b.0 a),
  sorted-join xs e ys b.1 s.1 a t,
)

pub ordered-sorted : (T : Tree) → Ordered T → Sorted (entries_of T)
unfolding Ordered
ordered-sorted leaf h = unfold in_order in tt
ordered-sorted (node d a b l r) h =
    rw (entries-node d a b l r)
    (sorted-join (entries_of l) (entry_of d) (entries_of r) (below_all d.key l h.0) (ordered-sorted l h.2)
    (above-all d.key r h.1) (ordered-sorted r h.3))

-- a record goes in where it belongs
module _ (new : Entry) where
  insert-after : (k : ℕ) (es : List Entry) → k < new.key → AllAfter k es → AllAfter k (insert new es)
  unfolding insert
  insert-after k [] l h = (l, tt)
  insert-after k (e ∷ es) l h =
      by_bool (ltb new.key e.key) (λ p. rw p (l, h)) (λ p. rw p (h.0, insert-after k es l h.1))

  insert-sorted : (es : List Entry) → lookup new.key es ≡ none → Sorted es → Sorted (insert new es)
  unfolding insert
  insert-sorted [] e s = (tt, tt)
  insert-sorted (x ∷ xs) e s =
      not-here new.key x xs e (λ ne rest.
      by_bool (ltb new.key x.key)
      (λ p. let lt = ltb-true new.key x.key p in rw p ((lt, all-less new.key x.key xs lt s.0), s))
      (λ p. let gt : x.key < new.key = omega (arith, ltb-false new.key x.key p, eqb-false new.key x.key ne) in
      rw p (insert-after x.key xs gt s.0, insert-sorted xs rest s.1)))

-- an operation that puts `mid` where the first record with a stamp is, and `mid` fits there
module _ (key : ℕ) (mid : List Entry) (op : List Entry → List Entry) (nil : op [] ≡ [])
    (step : (x : Entry) (xs : List Entry) → op (x ∷ xs) ≡ cond (eqb key x.key) (mid ++ xs) (x ∷ op xs))
    (fits_after : (k : ℕ) → k < key → AllAfter k mid)
    (fits : (xs : List Entry) → AllAfter key xs → Sorted xs → Sorted (mid ++ xs)) where
  op-after : (k : ℕ) (xs : List Entry) → AllAfter k xs → AllAfter k (op xs)
  op-after k [] h = rw nil tt
  op-after k (x ∷ xs) h =
      rw (step x xs)
      (by_bool (eqb key x.key)
      (λ p. rw p (each-join (λ stamp. k < stamp) mid xs (fits_after k (omega (arith, h.0, eqb-true key x.key p))) h.1))
      (λ p. rw p (h.0, op-after k xs h.1)))

  op-sorted : (xs : List Entry) → Sorted xs → Sorted (op xs)
  op-sorted [] s = rw nil tt
  op-sorted (x ∷ xs) s =
      rw (step x xs)
      (by_bool (eqb key x.key)
      (λ p. rw p (fits xs (rw (eqb-true key x.key p) s.0) s.1))
      (λ p. rw p (op-after x.key xs s.0, op-sorted xs s.1)))

replace-sorted : (new : Entry) (es : List Entry) → Sorted es → Sorted (replace new es)
unfolding replace
replace-sorted new =
    op-sorted new.key (new ∷ []) (replace new) refl (λ x xs. refl) (λ k l. (l, tt)) (λ xs a s. (a, s))

remove-sorted : (key : ℕ) (es : List Entry) → Sorted es → Sorted (remove key es)
unfolding remove
remove-sorted key = op-sorted key [] (remove key) refl (λ x xs. refl) (λ k l. tt) (λ xs a s. s)

-- the calls that change a ledger: refused, or sorted again
abbrev Leaves : Entered → Type 0
Leaves d = Sorted d.ledger.entries

module _ (L : Ledger) (s : Sorted L.entries) where
  entered-sorted : (es : List Entry) → Sorted es → Leaves (entered L es)
  entered-sorted es h = by_bool (ltb L.change last_change) (λ p. rw p h) (λ p. rw p s)

  on-entry : (key : ℕ) (o : Option Entry) → lookup key L.entries ≡ o → (x y : Entered)
      → (lookup key L.entries ≡ none → Leaves x) → Leaves y → Leaves (on_entry o x y)
  on-entry key none e x y absent present = absent e
  on-entry key (some found) e x y absent present = present

  post-sorted : (key pieces state : ℕ) → Leaves (post_in key pieces state L)
  post-sorted key pieces state =
      by_bool (record_ok key pieces state)
      (λ p. rw p (on-entry key (lookup key L.entries) refl _ _
      (λ none_yet. by_bool (ltb (length L.entries) L.capacity)
      (λ q. rw q (entered-sorted _ (insert-sorted (entry key pieces state) L.entries none_yet s)))
      (λ q. rw q s))
      s))
      (λ p. rw p s)

  amend-sorted : (key pieces state : ℕ) → Leaves (amend_in key pieces state L)
  amend-sorted key pieces state =
      by_bool (record_ok key pieces state)
      (λ p. rw p (on-entry key (lookup key L.entries) refl _ _ (λ none_yet. s)
      (entered-sorted _ (replace-sorted (entry key pieces state) L.entries s))))
      (λ p. rw p s)

  drop-sorted : (key : ℕ) → Leaves (drop_in key L)
  drop-sorted key =
      by_bool (eqb key 0)
      (λ p. rw p s)
      (λ p. rw p (on-entry key (lookup key L.entries) refl _ _ (λ none_yet. s)
      (entered-sorted _ (remove-sorted key L.entries s))))

-- EVERY CALL LEAVES A SORTED LEDGER SORTED
pub call-sorted : (x : Call) (L : Ledger) → Sorted L.entries → Sorted (ledger_after x L).entries
unfolding ledger_after
call-sorted Start L s = tt
call-sorted Check L s = s
call-sorted (Find key) L s = s
call-sorted (Post key pieces state) L s = post-sorted L s key pieces state
call-sorted (Amend key pieces state) L s = amend-sorted L s key pieces state
call-sorted (Drop key) L s = drop-sorted L s key
call-sorted (Rank r) L s = s
call-sorted (Total K) L s = s
call-sorted Worth L s = s
call-sorted (Fire rule holder side) L s = s
call-sorted (Tidy budget) L s = s

-- AND SO DOES ANY LIST OF CALLS
pub calls-sorted : (xs : List Call) (L : Ledger) → Sorted L.entries → Sorted (ledger_after_all xs L).entries
unfolding ledger_after_all
calls-sorted [] L s = s
calls-sorted (x ∷ xs) L s = calls-sorted xs (ledger_after x L) (call-sorted x L s)
