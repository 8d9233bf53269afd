-- The neighbours of a stamp that is absent from a sorted list: there, on both sides of it, with nothing between. Assumes nothing.
use Prim.Native.Nat.{ℕ, ◌≤◌, ◌<◌, max}
use mathlib.Core.Path.{◌≡◌, refl}
use mathlib.Core.Option.{none, some}
use mathlib.Core.List.{List, [], ◌∷◌}
use native.Mathlib.Omega.{arith}
use lib.Dec.{eqb, ltb}
use borrow.Author.Tests.{eq-eqb, ne_eqb, eqb-true, eqb-false, ltb-true, ltb-false}
use Rattle.scope.proofs.Bools.{by_bool, never}
use Rattle.ledger.specs.Entries.{Entry, lookup, below, above}
use Rattle.ledger.specs.Sorted.{EachStamp, AllAfter, Sorted}
use Rattle.ledger.specs.Neighbours.{OnSide, there, nowhere, up_to, from, Neighbours}
use Rattle.ledger.specs.Ledger.{neighbours}
use Rattle.ledger.proofs.Lists.{not-here, each_map, each_both}

-- a stamp that is found comes after what all come after
found_after : (m stamp : ℕ) (e : Entry) (es : List Entry) → AllAfter m es → lookup stamp es ≡ some e → m < stamp
unfolding lookup
found_after m stamp e [] h q = never cc
found_after m stamp e (x ∷ xs) h q =
    by_bool (eqb stamp x.key)
    (λ p. omega (arith, h.0, eqb-true stamp x.key p)) (λ p. found_after m stamp e xs h.1 (simp p at q))

found-past : (stamp : ℕ) (x e : Entry) (xs : List Entry) → (stamp ≡ x.key → ⊥) → lookup stamp xs ≡ some e
    → lookup stamp (x ∷ xs) ≡ some e
unfolding lookup
found-past stamp x e xs ne q = rw (ne_eqb stamp x.key ne) q

found_here : (x : Entry) (xs : List Entry) → lookup x.key (x ∷ xs) ≡ some x
unfolding lookup
found_here x xs = rw (eq-eqb x.key x.key refl) refl

-- a record that is not on a side changes nothing there
side-past : (side : ℕ → Type 0) (x : Entry) (xs : List Entry) (stamp : ℕ) → (side x.key → ⊥)
    → OnSide xs side stamp → OnSide (x ∷ xs) side stamp
side-past side x xs stamp off (there e q j) = there e (found-past stamp x e xs (λ z. off (rw z at j)) q) j
side-past side x xs stamp off (nowhere z h) = nowhere z (off, h)

module _ (key : ℕ) where
  smaller-there : (es : List Entry) → Sorted es → OnSide es (λ stamp. stamp < key) (below key es)
  unfolding below
  smaller-there [] s = nowhere refl tt
  smaller-there (x ∷ xs) s =
      by_bool (ltb x.key key)
      (λ p. rw p (grows (ltb-true x.key key p) (smaller-there xs s.1)))
      (λ p. rw p (side-past (λ stamp. stamp < key) x xs (below key xs) (λ i. omega (arith, ltb-false x.key key p))
      (smaller-there xs s.1)))
    where
      grows : x.key < key → OnSide xs (λ stamp. stamp < key) (below key xs)
          → OnSide (x ∷ xs) (λ stamp. stamp < key) (max x.key (below key xs))
      grows i (there e q j) =
          let same : max x.key (below key xs) ≡ below key xs = omega (arith, found_after x.key (below key xs) e xs s.0 q) in
          rw same (there e (found-past (below key xs) x e xs (λ z. omega (arith, found_after x.key (below key xs) e xs s.0 q)) q) j)
      grows i (nowhere z h) =
          let same : max x.key (below key xs) ≡ x.key = omega (arith, z) in
          rw same (there x (found_here x xs) i)

  larger-there : (es : List Entry) → OnSide es (λ stamp. key < stamp) (above key es)
  unfolding above
  larger-there [] = nowhere refl tt
  larger-there (x ∷ xs) =
      by_bool (ltb key x.key)
      (λ p. rw p (there x (found_here x xs) (ltb-true key x.key p)))
      (λ p. rw p (side-past (λ stamp. key < stamp) x xs (above key xs) (λ i. omega (arith, ltb-false key x.key p))
      (larger-there xs)))

  -- the smaller ones go up to the one, the larger ones begin with the other, and none is the key itself
  smaller-most : (es : List Entry) → EachStamp (λ stamp. stamp < key → stamp ≤ below key es) es
  unfolding below
  smaller-most [] = tt
  smaller-most (x ∷ xs) =
      by_bool (ltb x.key key)
      (λ p. let e : below key (x ∷ xs) ≡ max x.key (below key xs) = rw p refl in
      ((λ i. omega (arith, e)), each_map _ _ xs (λ stamp f i. omega (arith, f i, e)) (smaller-most xs)))
      (λ p. let e : below key (x ∷ xs) ≡ below key xs = rw p refl in (
        (λ i. absurd (omega (arith, ltb-false x.key key p, i))),
        each_map _ _ xs (λ stamp f i. omega (arith, f i, e)) (smaller-most xs),
      ))

  larger-least : (es : List Entry) → Sorted es
      → EachStamp (λ stamp. key < stamp → (1 ≤ above key es) × (above key es ≤ stamp)) es
  unfolding above
  larger-least [] s = tt
  larger-least (x ∷ xs) s =
      by_bool (ltb key x.key)
      (λ p. let i = ltb-true key x.key p in
      let e : above key (x ∷ xs) ≡ x.key = rw p refl in
      ((λ j. (omega (arith, e), omega (arith, e))), each_map _ _ xs (λ stamp l j. (omega (arith, e), omega (arith, l, e))) s.0))
      (λ p. let e : above key (x ∷ xs) ≡ above key xs = rw p refl in (
        (λ i. absurd (omega (arith, ltb-false key x.key p))),
        each_map _ _ xs (λ stamp f i. (omega (arith, (f i).0, e), omega (arith, (f i).1, e))) (larger-least xs s.1),
      ))

  each-other : (es : List Entry) → lookup key es ≡ none → EachStamp (λ stamp. key ≡ stamp → ⊥) es
  each-other [] q = tt
  each-other (x ∷ xs) q = not-here key x xs q (λ p r. ((λ e. eqb-false key x.key p e), each-other xs r))

  pub neighbours-are : (es : List Entry) → Sorted es → lookup key es ≡ none → Neighbours key es (neighbours key es)
  neighbours-are es s q =
      record {
        smaller = smaller-there es s;
        larger = larger-there es;
        between = each_map _ _ es
            (λ stamp h. by_bool (ltb stamp key)
            (λ p. up_to (h.0 (ltb-true stamp key p)))
            (λ p. let beyond : key < stamp = omega (arith, ltb-false stamp key p, h.1.1) in
            from (h.1.0 beyond).0 (h.1.0 beyond).1))
            (each_both _ _ es (smaller-most es) (each_both _ _ es (larger-least es s) (each-other es q)));
      }
