-- Words spell one tree, and it is the tree that the definition computes. Assumes nothing.
use Prim.Native.Nat.{ℕ, zero, suc, ◌≤◌}
use mathlib.Core.Path.{◌≡◌, refl, sym, ◌∙◌, subst}
use mathlib.Core.Bool.{true}
use mathlib.Core.Option.{Option, none, some}
use mathlib.Core.List.{List}
use native.Mathlib.Omega.{arith}
use lib.Dec.{eqb}
use borrow.Author.Tests.{ne_eqb, eqb-true, eqb-false}
use Rattle.scope.proofs.Bools.{by_bool, never}
use Rattle.scope.specs.Table.{word, root_word, slot_at}
use Rattle.scope.specs.Fit.{fit_slot}
use Rattle.scope.specs.Tree.{Tree, leaf, node, size}
use Rattle.scope.specs.Sound.{Spells, batch_at, tree_of, join, root_tree, tree_in, Sound}
use Rattle.spelling.proofs.Laws.{header-count}

-- two trees at one link are the same
pub unique : (t : List ℕ) (c c' x : ℕ) (T U : Tree) → Spells t c x T → Spells t c' x U → T ≡ U
unfolding Spells
unique t c c' x leaf leaf p q = refl
unique t c c' x leaf (node d a b l r) p q = absurd (omega (arith, q.there))
unique t c c' x (node d a b l r) leaf p q = absurd (omega (arith, p.there))
unique t c c' x (node d a b l r) (node d' a' b' l' r') p q =
    cc (
      unique t c c' (slot_at t x).left l l' p.left q.left,
      unique t c c' (slot_at t x).right r r' p.right q.right,
      p.holds,
      q.holds,
      p.lefth,
      q.lefth,
      p.righth,
      q.righth,
    )

module _ (t : List ℕ) (c : ℕ) where
  -- the tree over slot x with these two below it
  abbrev pub topped : ℕ → Tree → Tree → Tree
  topped x l r = node (batch_at t x) (slot_at t x).lefth (slot_at t x).righth l r

  at_none : (deep : ℕ) → tree_of t c deep 0 ≡ some leaf
  unfolding tree_of
  at_none zero = refl
  at_none (suc deep) = refl

  -- a tree that the words spell is computed, where it is not too deep
  pub spells-tree : (deep x : ℕ) (T : Tree) → Spells t c x T → size T ≤ deep → tree_of t c deep x ≡ some T
  unfolding Spells tree_of size
  spells-tree deep x leaf p h = rw p (at_none deep)
  spells-tree zero x (node d a b l r) p h = absurd (omega arith)
  spells-tree (suc deep) x (node d a b l r) p h =
      let el = spells-tree deep (slot_at t x).left l p.left (omega arith) in
      let er = spells-tree deep (slot_at t x).right r p.right (omega arith) in
      rw (ne_eqb x 0 (λ e. omega (arith, p.there)), p.fit, el, er) (cc (p.holds, p.lefth, p.righth))

  nothing : {X : Type 0} {T : Tree} → ◌≡◌ {A = Option Tree} none (some T) → X
  nothing e = never cc

  leaf-spells : (x : ℕ) (T : Tree) → x ≡ 0 → ◌≡◌ {A = Option Tree} (some leaf) (some T) → Spells t c x T
  unfolding Spells
  leaf-spells x T z e = let i : leaf ≡ T = cc in subst (Spells t c x) i z

  module _ (x : ℕ) (there : 1 ≤ x) (fit : fit_slot c (slot_at t x) ≡ true) where
    joined : (T : Tree) (ol or : Option Tree)
        → ((l : Tree) → ol ≡ some l → Spells t c (slot_at t x).left l)
        → ((r : Tree) → or ≡ some r → Spells t c (slot_at t x).right r)
        → join (batch_at t x) (slot_at t x).lefth (slot_at t x).righth ol or ≡ some T → Spells t c x T
    unfolding Spells
    joined T none or hl hr e = nothing e
    joined T (some l) none hl hr e = nothing e
    joined T (some l) (some r) hl hr e =
        let i : topped x l r ≡ T = cc in
        subst (Spells t c x) i
        (record { there = there; fit = fit; holds = refl; lefth = refl; righth = refl; left = hl l refl; right = hr r refl })

  -- a computed tree is spelled by the words
  pub tree-spells : (deep x : ℕ) (T : Tree) → tree_of t c deep x ≡ some T → Spells t c x T
  unfolding tree_of
  tree-spells zero x T e =
      by_bool (eqb x 0)
      (λ p. leaf-spells x T (eqb-true x 0 p) (simp p at e))
      (λ p. nothing (simp p at e))
  tree-spells (suc deep) x T e =
      by_bool (eqb x 0)
      (λ p. leaf-spells x T (eqb-true x 0 p) (simp p at e))
      (λ p. by_bool (fit_slot c (slot_at t x))
      (λ q. joined x (omega (arith, eqb-false x 0 p)) q T _ _
      (tree-spells deep (slot_at t x).left) (tree-spells deep (slot_at t x).right) (simp (p, q) at e))
      (λ q. nothing (simp (p, q) at e)))

  -- the tree of a sound table is computed
  pub root-tree : (s : Sound t c) → root_tree t c ≡ some s.tree
  root-tree s =
      spells-tree c (word t root_word) s.tree s.reached (omega (arith, s.count, header-count c t s.header))

  pub tree-in : (s : Sound t c) → tree_in t c ≡ s.tree
  tree-in s = rw (root-tree s)

  -- and no other hangs at its root
  pub only-tree : Sound t c → (T : Tree) → Spells t c (word t root_word) T → T ≡ tree_in t c
  only-tree s T p = unique t c c (word t root_word) T s.tree p s.reached ∙ sym (tree-in s)
