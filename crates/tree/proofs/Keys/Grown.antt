-- A tree with a new record hung where its key belongs. Assumes nothing.
use Prim.Native.Nat.{ℕ, suc, ◌+◌, ◌<◌}
use mathlib.Core.Path.{◌≡◌, refl, ap}
use mathlib.Core.Bool.{true, false}
use mathlib.Core.Option.{none}
use native.Mathlib.Omega.{arith}
use lib.Dec.{eqb, ltb}
use borrow.Author.Tests.{eqb-false, ltb-true, ltb-false}
use Rattle.scope.proofs.Bools.{by_bool, never}
use Rattle.scope.specs.Tree.{Batch, Tree, leaf, node, size, times, same, Below, Above, Ordered}
use Rattle.tree.specs.Seek.{seek, end_of, at_key}
use Rattle.tree.proofs.Keys.Keyed.{at-times, at_size}

-- a key that is not found is not the top's, and not found on the side where it would be
pub missing : {X : Type 0} (key : ℕ) (d : Batch) (a b : ℕ) (l r : Tree) → seek key (node d a b l r) ≡ none
    → (eqb key d.key ≡ false → (ltb key d.key ≡ true → seek key l ≡ none)
    → (ltb key d.key ≡ false → seek key r ≡ none) → X) → X
unfolding seek
missing key d a b l r e k =
    by_bool (eqb key d.key)
    (λ p. let q = simp p at e in never cc)
    (λ p. k p (λ f. simp (p, f) at e) (λ f. simp (p, f) at e))

-- nothing hangs where it would be
pub end-missing : (key : ℕ) (T : Tree) → seek key T ≡ none → end_of key T ≡ leaf
unfolding end_of
end-missing key leaf e = refl
end-missing key (node d a b l r) e =
    missing key d a b l r e
    (λ p left right. by_bool (ltb key d.key)
    (λ f. simp (p, f, end-missing key l (left f))) (λ f. simp (p, f, end-missing key r (right f))))

module _ (new : Batch) where
  abbrev pub grown : Tree → Tree
  grown = at_key new.key (λ E. node new 0 0 leaf leaf)

  pub grown-times : (k : ℕ) (T : Tree) → seek new.key T ≡ none → times k (grown T) ≡ same k new.slot + times k T
  unfolding times
  grown-times k T e =
      omega (arith, at-times new.key (λ E. node new 0 0 leaf leaf) k T, ap (times k) (end-missing new.key T e))

  pub grown-size : (T : Tree) → seek new.key T ≡ none → size (grown T) ≡ suc (size T)
  unfolding size
  grown-size T e =
      omega (arith, at_size new.key (λ E. node new 0 0 leaf leaf) T, ap size (end-missing new.key T e))

  grown-below : (m : ℕ) (T : Tree) → seek new.key T ≡ none → new.key < m → Below m T → Below m (grown T)
  unfolding at_key Below
  grown-below m leaf e i h = (i, tt, tt)
  grown-below m (node d a b l r) e i h =
      missing new.key d a b l r e
      (λ p left right. by_bool (ltb new.key d.key)
      (λ f. simp (p, f) (h.0, grown-below m l (left f) i h.1, h.2))
      (λ f. simp (p, f) (h.0, h.1, grown-below m r (right f) i h.2)))

  grown-above : (m : ℕ) (T : Tree) → seek new.key T ≡ none → m < new.key → Above m T → Above m (grown T)
  unfolding at_key Above
  grown-above m leaf e i h = (i, tt, tt)
  grown-above m (node d a b l r) e i h =
      missing new.key d a b l r e
      (λ p left right. by_bool (ltb new.key d.key)
      (λ f. simp (p, f) (h.0, grown-above m l (left f) i h.1, h.2))
      (λ f. simp (p, f) (h.0, h.1, grown-above m r (right f) i h.2)))

  pub grown-ordered : (T : Tree) → seek new.key T ≡ none → Ordered T → Ordered (grown T)
  unfolding at_key Ordered Below Above
  grown-ordered leaf e h = (tt, tt, tt, tt)
  grown-ordered (node d a b l r) e h =
      missing new.key d a b l r e
      (λ p left right. by_bool (ltb new.key d.key)
      (λ f. simp (p, f)
      (grown-below d.key l (left f) (ltb-true new.key d.key f) h.0, h.1, grown-ordered l (left f) h.2, h.3))
      (λ f. simp (p, f) (
        h.0,
        grown-above d.key r (right f) (omega
            (arith, ltb-false new.key d.key f, eqb-false new.key d.key p)) h.1,
        h.2,
        grown-ordered r
            (right f) h.3,
      )))
