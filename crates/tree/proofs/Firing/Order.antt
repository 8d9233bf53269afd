-- A tree is in order exactly if its records in order rise; so what keeps the records keeps the order. Assumes nothing.
use Prim.Native.Nat.{ℕ, ◌<◌}
use mathlib.Core.Path.{◌≡◌}
use mathlib.Core.List.{List, [], ◌∷◌, ◌++◌}
use native.Mathlib.Omega.{arith}
use Rattle.scope.specs.Tree.{Batch, Tree, leaf, node, in_order, Below, Above, Ordered}

-- a statement on every record of a list
abbrev All : (Batch → Type 0) → List Batch → Type 0
All P [] = Unit {0}
All P (d ∷ ds) = P d × All P ds

abbrev Rising : List Batch → Type 0
Rising [] = Unit {0}
Rising (d ∷ ds) = All (λ e. d.key < e.key) ds × Rising ds

module _ (P : Batch → Type 0) where
  all_split : (xs ys : List Batch) → All P (xs ++ ys) → All P xs × All P ys
  all_split [] ys h = (tt, h)
  all_split (x ∷ xs) ys h = let k = all_split xs ys h.1 in ((h.0, k.0), k.1)

  all_join : (xs ys : List Batch) → All P xs → All P ys → All P (xs ++ ys)
  all_join [] ys h k = k
  all_join (x ∷ xs) ys h k = (h.0, all_join xs ys h.1 k)

  -- a statement on trees that says P of every record
  record SaysOf (F : Tree → Type 0) : Type 0 where
    none : F leaf
    out : (d : Batch) (a b : ℕ) (l r : Tree) → F (node d a b l r) → P d × F l × F r
    back : (d : Batch) (a b : ℕ) (l r : Tree) → P d × F l × F r → F (node d a b l r)

  module _ (F : Tree → Type 0) (says : SaysOf F) where
    to-list : (T : Tree) → F T → All P (in_order T)
    unfolding in_order
    to-list leaf h = tt
    to-list (node d a b l r) h =
        let k = says.out d a b l r h in
        all_join (in_order l) (d ∷ in_order r) (to-list l k.1) (k.0, to-list r k.2)

    of-list : (T : Tree) → All P (in_order T) → F T
    unfolding in_order
    of-list leaf h = says.none
    of-list (node d a b l r) h =
        let k = all_split (in_order l) (d ∷ in_order r) h in
        says.back d a b l r (k.1.0, of-list l k.0, of-list r k.1.1)

all_map : (P R : Batch → Type 0) → ((e : Batch) → P e → R e) → (xs : List Batch) → All P xs → All R xs
all_map P R f [] h = tt
all_map P R f (x ∷ xs) h = (f x h.0, all_map P R f xs h.1)

abbrev Before : ℕ → Batch → Type 0
Before k e = e.key < k

abbrev After : ℕ → Batch → Type 0
After k e = k < e.key

below-says : (k : ℕ) → SaysOf (Before k) (Below k)
unfolding Below
below-says k = record { none = tt; out = λ d a b l r h. h; back = λ d a b l r h. h }

above-says : (k : ℕ) → SaysOf (After k) (Above k)
unfolding Above
above-says k = record { none = tt; out = λ d a b l r h. h; back = λ d a b l r h. h }

-- a list that rises through d
record Through (xs : List Batch) (d : Batch) (ys : List Batch) : Type 0 where
  before : All (Before d.key) xs
  after : All (After d.key) ys
  first : Rising xs
  last : Rising ys

rising-split : (xs : List Batch) (d : Batch) (ys : List Batch) → Rising (xs ++ (d ∷ ys)) → Through xs d ys
rising-split [] d ys h = record { before = tt; after = h.0; first = tt; last = h.1 }
rising-split (x ∷ xs) d ys h =
    let k = all_split (After x.key) xs (d ∷ ys) h.0 in
    let t = rising-split xs d ys h.1 in
    record { before = (k.1.0, t.before); after = t.after; first = (k.0, t.first); last = t.last }

rising-join : (xs : List Batch) (d : Batch) (ys : List Batch) → Through xs d ys → Rising (xs ++ (d ∷ ys))
rising-join [] d ys t = (t.after, t.last)
rising-join (x ∷ xs) d ys t =
    let less = t.before.0 in
    let rest = all_map (After d.key) (After x.key) (λ e h. omega arith) ys t.after in (
      all_join (After x.key) xs (d ∷ ys) t.first.0 (less, rest),
      rising-join xs d ys
          (record { before = t.before.1; after = t.after; first = t.first.1; last = t.last }),
    )

ordered-rises : (T : Tree) → Ordered T → Rising (in_order T)
unfolding Ordered in_order
ordered-rises leaf h = tt
ordered-rises (node d a b l r) h =
    rising-join (in_order l) d (in_order r)
    (record {
      before = to-list (Before d.key) (Below d.key) (below-says d.key) l h.0;
      after = to-list (After d.key) (Above d.key) (above-says d.key) r h.1;
      first = ordered-rises l h.2;
      last = ordered-rises r h.3;
    })

rises-ordered : (T : Tree) → Rising (in_order T) → Ordered T
unfolding Ordered in_order
rises-ordered leaf h = tt
rises-ordered (node d a b l r) h =
    let t = rising-split (in_order l) d (in_order r) h in (
      of-list (Before d.key) (Below d.key) (below-says d.key) l t.before,
      of-list (After d.key) (Above d.key) (above-says d.key) r t.after,
      rises-ordered l t.first,
      rises-ordered r t.last,
    )

pub ordered-kept : (T T' : Tree) → in_order T' ≡ in_order T → Ordered T → Ordered T'
ordered-kept T T' e h = rises-ordered T' (rw e (ordered-rises T h))
