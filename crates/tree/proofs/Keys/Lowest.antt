-- The leftmost record of a tree, and the tree without it or without its top: slots, order and records. Assumes nothing.
use Prim.Native.Nat.{ℕ, suc, ◌+◌, ◌<◌}
use mathlib.Core.Path.{◌≡◌, refl}
use mathlib.Core.List.{◌∷◌}
use native.Mathlib.Omega.{arith}
use Rattle.scope.specs.Tree.{Batch, Tree, leaf, node, size, in_order, times, same, Below, Above, Ordered}
use Rattle.tree.proofs.Keys.Bounds.{below_more, above_more}
use Rattle.tree.specs.Without.{least, without_least, without_top}

-- without the leftmost record
pub least-times : (k : ℕ) (d : Batch) (a b : ℕ) (l r : Tree)
    → times k (node d a b l r) ≡ same k (least d l).slot + times k (without_least d a b l r)
unfolding times least without_least
least-times k d a b leaf r = omega arith
least-times k d a b (node e x y l m) r = omega (arith, least-times k e x y l m)

pub least_size : (d : Batch) (a b : ℕ) (l r : Tree) → size (node d a b l r) ≡ suc (size (without_least d a b l r))
unfolding size without_least
least_size d a b leaf r = omega arith
least_size d a b (node e x y l m) r = omega (arith, least_size e x y l m)

pub least-order : (d : Batch) (a b : ℕ) (l r : Tree)
    → in_order (node d a b l r) ≡ least d l ∷ in_order (without_least d a b l r)
unfolding in_order least without_least
least-order d a b leaf r = refl
least-order d a b (node e x y l m) r = rw (least-order e x y l m) refl

least-below : (n : ℕ) (d : Batch) (a b : ℕ) (l r : Tree) → Below n (node d a b l r)
    → ((least d l).key < n) × Below n (without_least d a b l r)
unfolding Below least without_least
least-below n d a b leaf r h = (h.0, h.2)
least-below n d a b (node e x y l m) r h = let k = least-below n e x y l m h.1 in (k.0, (h.0, k.1, h.2))

least_above : (n : ℕ) (d : Batch) (a b : ℕ) (l r : Tree) → Above n (node d a b l r)
    → (n < (least d l).key) × Above n (without_least d a b l r)
unfolding Above least without_least
least_above n d a b leaf r h = (h.0, h.2)
least_above n d a b (node e x y l m) r h = let k = least_above n e x y l m h.1 in (k.0, (h.0, k.1, h.2))

-- all that are left come after it
least-ordered : (d : Batch) (a b : ℕ) (l r : Tree) → Ordered (node d a b l r)
    → Above (least d l).key (without_least d a b l r) × Ordered (without_least d a b l r)
unfolding Ordered Above least without_least
least-ordered d a b leaf r h = (h.1, h.3)
least-ordered d a b (node e x y l m) r h =
    let k = least-ordered e x y l m h.2 in
    let under = least-below d.key e x y l m h.0 in
    ((under.0, k.0, above_more r (omega (arith, under.0)) h.1), (under.1, h.1, k.1, h.3))

-- without the record at the top: what bounds the tree bounds what is left, and it is in order
pub top_below : (n : ℕ) (E : Tree) → Below n E → Below n (without_top E)
unfolding Below without_top
top_below n leaf h = h
top_below n (node d a b leaf r) h = h.2
top_below n (node d a b (node e x y l m) leaf) h = h.1
top_below n (node d a b (node e x y l m) (node g u v p q)) h =
    let k = least-below n g u v p q h.2 in (k.0, h.1, k.1)

pub top_above : (n : ℕ) (E : Tree) → Above n E → Above n (without_top E)
unfolding Above without_top
top_above n leaf h = h
top_above n (node d a b leaf r) h = h.2
top_above n (node d a b (node e x y l m) leaf) h = h.1
top_above n (node d a b (node e x y l m) (node g u v p q)) h =
    let k = least_above n g u v p q h.2 in (k.0, h.1, k.1)

pub top-ordered : (E : Tree) → Ordered E → Ordered (without_top E)
unfolding Ordered without_top
top-ordered leaf h = h
top-ordered (node d a b leaf r) h = h.3
top-ordered (node d a b (node e x y l m) leaf) h = h.2
top-ordered (node d a b (node e x y l m) (node g u v p q)) h =
    let k = least-ordered g u v p q h.3 in
    let over = least_above d.key g u v p q h.1 in
    (below_more (node e x y l m) (omega (arith, over.0)) h.0, k.0, h.2, k.1)

pub top-size : (d : Batch) (a b : ℕ) (l r : Tree) → size (node d a b l r) ≡ suc (size (without_top (node d a b l r)))
unfolding size without_top
top-size d a b leaf r = omega arith
top-size d a b (node e x y l m) leaf = omega arith
top-size d a b (node e x y l m) (node g u v p q) = omega (arith, least_size g u v p q)
