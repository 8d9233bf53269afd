-- One step down a hanging tree, for every walk of it; and the tree at the root. Assumes nothing.
use Prim.Native.Nat.{ℕ, suc, ◌+◌, ◌-◌, ◌≤◌}
use mathlib.Core.Path.{◌≡◌, refl, sym, ap, ◌∙◌}
use mathlib.Core.List.{List}
use native.Mathlib.Omega.{arith}
use Rattle.scope.specs.Table.{word, root_word, count_word, slot_at, InTable}
use Rattle.scope.specs.Tree.{Tree, leaf, node, size}
use Rattle.scope.specs.Sound.{Spells, batch_at, tree_in}
use Rattle.spelling.proofs.Laws.{in_table, fit-left, fit-right, header-root, header-count}
use Rattle.spelling.specs.Whole.{Whole}
use Rattle.spelling.proofs.Spell.{unique, tree-in}
use Rattle.fork.specs.declared.Fork.{Fork}
use Rattle.fork.specs.Hangs.{FewHang, Says, Forked, fork_at}

module _ {t : List ℕ} {more x : ℕ} (h : FewHang t more x) (there : 1 ≤ x) where
  -- the slot lies in the table
  pub in_reach : InTable t x
  in_reach = in_table x h.sized (omega arith) h.link

  -- a tree with fewer slots at a link below
  abbrev below : (S : Tree) (k : ℕ) → k ≤ h.slots → Spells t h.slots k S → size S ≤ more - 1 → FewHang t (more - 1) k
  below S k le p few =
      record {
        slots = h.slots;
        sized = h.sized;
        link = le;
        most = omega (arith, h.most);
        tree = S;
        reached = p;
        few = few;
      }

  forked-at : (T : Tree) → Spells t h.slots x T → size T ≤ more → Forked t more x (fork_at t x)
  unfolding Spells size
  forked-at leaf p few = absurd (omega (arith, there))
  forked-at (node d a b l r) p few =
      record {
        some = omega arith;
        most = h.most;
        c = h.slots;
        slot = refl;
        fit = p.fit;
        on_left = below l (slot_at t x).left (fit-left h.slots (slot_at t x) p.fit).0 p.left (omega arith);
        on_right = below r (slot_at t x).right (fit-right h.slots (slot_at t x) p.fit).0 p.right (omega arith);
        few = omega arith;
        whole = λ c T q. unique t c h.slots x T (node (batch_at t x) (slot_at t x).lefth (slot_at t x).righth l r) q
            (record {
              there = p.there;
              fit = p.fit;
              holds = refl;
              lefth = refl;
              righth = refl;
              left = p.left;
              right = p.right;
            });
      }

  pub forked : {f : Fork} → f ≡ fork_at t x → Forked t more x f
  forked e = rw e (forked-at h.tree h.reached h.few)

-- nothing hangs at the empty link
pub at_leaf : (t : List ℕ) (c x : ℕ) → x ≡ 0 → (T : Tree) → Spells t c x T → T ≡ leaf
unfolding Spells
at_leaf t c x e leaf p = refl
at_leaf t c x e (node d a b l r) p = absurd (omega (arith, p.there))

pub says-leaf : {A : Type 0} (t : List ℕ) (x : ℕ) (f : Tree → A) → x ≡ 0 → Says t x f (f leaf)
says-leaf t x f e c T p = ap f (sym (at_leaf t c x e T p))

-- and of an empty link whatever is said of no tree is said there
pub says-empty : {A : Type 0} (t : List ℕ) (x : ℕ) (f : Tree → A) {r : A} → r ≡ f leaf → x ≡ 0 → Says t x f r
says-empty t x f e z c T p = e ∙ says-leaf t x f z c T p

-- what a walk of a hanging tree said
pub said_at : {A : Type 0} {t : List ℕ} {more x : ℕ} (h : FewHang t more x) (f : Tree → A) {r : A} → Says t x f r
    → r ≡ f h.tree
said_at h f s = s h.slots h.tree h.reached

-- what f says over a fork, it says of the tree
pub says-fork : {A : Type 0} {t : List ℕ} {more x : ℕ} {f : Fork} (g : Tree → A) (d : Forked t more x f) {r : A}
    → r ≡ g (node (batch_at t x) f.slot.lefth f.slot.righth d.on_left.tree d.on_right.tree)
    → Says t x g r
says-fork g d e c T p = e ∙ ap g (sym (d.whole c T p))

-- what hangs at a fork are its slot and its two sides
pub sizes : {t : List ℕ} {more x : ℕ} {f : Fork} (h : FewHang t more x) (d : Forked t more x f)
    → size h.tree ≡ suc (size d.on_left.tree + size d.on_right.tree)
unfolding size
sizes h d = ap size (d.whole h.slots h.tree h.reached)

-- the tree of a sound table hangs at its root, as the code reads it
module _ {t : List ℕ} {c x : ℕ} (w : Whole t c) (ex : x ≡ word t root_word) where
  pub root-hangs : {n : ℕ} → n ≡ word t count_word → FewHang t n x
  root-hangs en = rw (en, ex) (record {
    slots = c;
    sized = w.sized;
    link = header-root c t w.sound.header;
    most = omega (arith, w.sized.most, header-count c t w.sound.header);
    tree = w.sound.tree;
    reached = w.sound.reached;
    few = omega (arith, w.sound.count);
  })

  pub said : {A : Type 0} (f : Tree → A) {r : A} → Says t x f r → r ≡ f (tree_in t c)
  said f s = s c w.sound.tree (rw ex w.sound.reached) ∙ ap f (sym (tree-in t c w.sound))
