-- A change at the end of the way to a key is one of the whole tree. Assumes nothing.
use Prim.Native.Nat.{ℕ, ◌+◌}
use mathlib.Core.Path.{◌≡◌, refl}
use mathlib.Core.Option.{some}
use mathlib.Core.Bool.{true, false}
use mathlib.Core.List.{List, [], ◌∷◌}
use native.Mathlib.Omega.{arith}
use lib.Dec.{eqb, ltb}
use Rattle.scope.proofs.Bools.{by_bool, never}
use Rattle.scope.specs.Tree.{Batch, Tree, leaf, node, size, times, Below, Above, Ordered}
use Rattle.scope.specs.declared.side.Side.{Side}
use Rattle.scope.specs.declared.side.Side.TheVariants.{Left, Right}
use Rattle.tree.specs.Place.{subtree}
use Rattle.tree.specs.Seek.{seek, route, beside, end_of, at_key, amend_top}

-- the way to a key leads to its end
pub end-there : (key : ℕ) (T : Tree) → subtree (route key T) T ≡ some (end_of key T)
unfolding route end_of subtree
end-there key leaf = refl
end-there key (node d a b l r) =
    by_bool (eqb key d.key)
    (λ e. simp e)
    (λ e. by_bool (ltb key d.key) (λ f. simp (e, f) (end-there key l)) (λ f. simp (e, f) (end-there key r)))

-- what is found is the top of what hangs there
pub end-found : (key : ℕ) (T : Tree) (d : Batch) → seek key T ≡ some d → (P : Tree → Type 0)
    → ((a b : ℕ) (l r : Tree) → P (node d a b l r)) → P (end_of key T)
unfolding seek end_of
end-found key leaf d e P f = never cc
end-found key (node b x y l r) d e P f =
    by_bool (eqb key b.key)
    (λ q. let same : b ≡ d = cc (simp q at e) in simp q (rw same (f x y l r)))
    (λ q. by_bool (ltb key b.key)
    (λ g. simp (q, g) (end-found key l d (simp (q, g) at e) P f))
    (λ g. simp (q, g) (end-found key r d (simp (q, g) at e) P f)))

-- a node on the way: its own key, or the way goes on to one of its sons
pub by_key : (key : ℕ) (f : Tree → Tree) (d : Batch) (a b : ℕ) (l r : Tree) (P : List Side → Tree → Tree → Type 0)
    → (eqb key d.key ≡ true → P [] (node d a b l r) (f (node d a b l r)))
    → (eqb key d.key ≡ false → ltb key d.key ≡ true
    → P (Left ∷ route key l) (end_of key l) (node d (beside a (at_key key f l)) b (at_key key f l) r))
    → (eqb key d.key ≡ false → ltb key d.key ≡ false
    → P (Right ∷ route key r) (end_of key r) (node d a (beside b (at_key key f r)) l (at_key key f r)))
    → P (route key (node d a b l r)) (end_of key (node d a b l r)) (at_key key f (node d a b l r))
unfolding route end_of at_key
by_key key f d a b l r P here left right =
    by_bool (eqb key d.key)
    (λ e. rw e (here e))
    (λ e. by_bool (ltb key d.key) (λ g. rw (e, g) (left e g)) (λ g. rw (e, g) (right e g)))

-- what the change adds to the end or takes from it, it adds to the tree or takes from it
module _ (key : ℕ) (f : Tree → Tree) where
  pub at-times : (k : ℕ) (T : Tree)
      → times k (at_key key f T) + times k (end_of key T) ≡ times k T + times k (f (end_of key T))
  unfolding times
  at-times k leaf = unfold at_key end_of times in omega arith
  at-times k (node d a b l r) =
      by_key key f d a b l r (λ w E U. times k U + times k E ≡ times k (node d a b l r) + times k (f E))
      (λ e. omega arith) (λ e g. omega (arith, at-times k l)) (λ e g. omega (arith, at-times k r))

  pub at_size : (T : Tree) → size (at_key key f T) + size (end_of key T) ≡ size T + size (f (end_of key T))
  unfolding size
  at_size leaf = unfold at_key end_of size in omega arith
  at_size (node d a b l r) =
      by_key key f d a b l r (λ w E U. size U + size E ≡ size (node d a b l r) + size (f E))
      (λ e. omega arith) (λ e g. omega (arith, at_size l)) (λ e g. omega (arith, at_size r))

  -- one that keeps order and bounds there keeps them in the tree
  module _ (below : (m : ℕ) (E : Tree) → Below m E → Below m (f E))
      (above : (m : ℕ) (E : Tree) → Above m E → Above m (f E)) where
    at-below : (m : ℕ) (T : Tree) → Below m T → Below m (at_key key f T)
    unfolding Below
    at-below m leaf h = unfold at_key in below m leaf h
    at-below m (node d a b l r) h =
        by_key key f d a b l r (λ w E U. Below m U)
        (λ e. below m (node d a b l r) h)
        (λ e g. (h.0, at-below m l h.1, h.2)) (λ e g. (h.0, h.1, at-below m r h.2))

    at_above : (m : ℕ) (T : Tree) → Above m T → Above m (at_key key f T)
    unfolding Above
    at_above m leaf h = unfold at_key in above m leaf h
    at_above m (node d a b l r) h =
        by_key key f d a b l r (λ w E U. Above m U)
        (λ e. above m (node d a b l r) h)
        (λ e g. (h.0, at_above m l h.1, h.2)) (λ e g. (h.0, h.1, at_above m r h.2))

    pub at-ordered : ((E : Tree) → Ordered E → Ordered (f E)) → (T : Tree) → Ordered T → Ordered (at_key key f T)
    unfolding Ordered
    at-ordered order leaf h = unfold at_key in order leaf h
    at-ordered order (node d a b l r) h =
        by_key key f d a b l r (λ w E U. Ordered U)
        (λ e. order (node d a b l r) h)
        (λ e g. (at-below d.key l h.0, h.1, at-ordered order l h.2, h.3))
        (λ e g. (h.0, at_above d.key r h.1, h.2, at-ordered order r h.3))

-- an amended tree has the same slots and keys in the same order
module _ (key pieces state : ℕ) where
  abbrev pub amended_tree : Tree → Tree
  amended_tree = at_key key (amend_top pieces state)

  pub amended-times : (k : ℕ) (T : Tree) → times k (amended_tree T) ≡ times k T
  amended-times k T = omega (arith, at-times key (amend_top pieces state) k T, top (end_of key T))
    where
      top : (E : Tree) → times k (amend_top pieces state E) ≡ times k E
      top leaf = unfold amend_top in refl
      top (node d a b l r) = unfold amend_top times in refl

  pub amended-size : (T : Tree) → size (amended_tree T) ≡ size T
  amended-size T = omega (arith, at_size key (amend_top pieces state) T, top (end_of key T))
    where
      top : (E : Tree) → size (amend_top pieces state E) ≡ size E
      top leaf = unfold amend_top in refl
      top (node d a b l r) = unfold amend_top size in refl

  amend-below : (m : ℕ) (E : Tree) → Below m E → Below m (amend_top pieces state E)
  unfolding amend_top Below
  amend-below m leaf h = h
  amend-below m (node d a b l r) h = h

  amend-above : (m : ℕ) (E : Tree) → Above m E → Above m (amend_top pieces state E)
  unfolding amend_top Above
  amend-above m leaf h = h
  amend-above m (node d a b l r) h = h

  amend-ordered : (E : Tree) → Ordered E → Ordered (amend_top pieces state E)
  unfolding amend_top Ordered
  amend-ordered leaf h = h
  amend-ordered (node d a b l r) h = h

  pub amended-ordered : (T : Tree) → Ordered T → Ordered (amended_tree T)
  amended-ordered T h = at-ordered key (amend_top pieces state) amend-below amend-above amend-ordered T h
