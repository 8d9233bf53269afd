-- The slots that are listed lie in the table. Assumes nothing.
use Prim.Native.Nat.{ℕ, zero, suc, ◌≤◌, ◌<◌}
use mathlib.Core.Path.{◌≡◌, sym, ap, ◌∙◌}
use mathlib.Core.List.{List, [], ◌∷◌, ◌++◌}
use native.Mathlib.Omega.{arith}
use lib.ListN.{length, get_or}
use lib.Seq.{get_or-take, length-take-le}
use Rattle.scope.specs.Table.{word, root_word, count_word, slot_at, InTable}
use Rattle.scope.specs.Tree.{Batch, Tree, leaf, node, size, in_order}
use Rattle.scope.specs.Sound.{Spells, tree_in}
use Rattle.scope.specs.Sums.{slots_in_order}
use Rattle.spelling.proofs.Laws.{in_table, fit-left, fit-right, header-root, header-count}
use Rattle.spelling.specs.Whole.{Whole}
use Rattle.spelling.proofs.Spell.{tree-in}
use Rattle.fork.proofs.Order.{order-node, order-size}
use Rattle.in_order.specs.Listed.{InOrder}

-- each of some slots is one of c
unfoldable Within : ℕ → List ℕ → Type 0
Within c [] = Unit {0}
Within c (k ∷ ks) = (1 ≤ k) × (k ≤ c) × Within c ks

within-append : (c : ℕ) (l r : List ℕ) → Within c l → Within c r → Within c (l ++ r)
unfolding Within
within-append c [] r p q = q
within-append c (k ∷ l) r p q = (p.0, p.1, within-append c l r p.2 q)

within-at : (c : ℕ) (l : List ℕ) (i : ℕ) → Within c l → i < length l → (1 ≤ get_or l i 0) × (get_or l i 0 ≤ c)
unfolding Within
within-at c [] i p h = absurd (omega arith)
within-at c (k ∷ l) zero p h = (p.0, p.1)
within-at c (k ∷ l) (suc i) p h = within-at c l i p.2 (omega arith)

spelled-within : (t : List ℕ) (c x : ℕ) (T : Tree) → x ≤ c → Spells t c x T → Within c (slots_in_order T)
unfolding Spells in_order Within
spelled-within t c x leaf h p = tt
spelled-within t c x (node d a b l r) h p =
    let e : d.slot ≡ x = ap (λ (b : Batch). b.slot) p.holds in
    let left = spelled-within t c (slot_at t x).left l (fit-left c (slot_at t x) p.fit).0 p.left in
    let right = spelled-within t c (slot_at t x).right r (fit-right c (slot_at t x) p.fit).0 p.right in
    rw (order-node d a b l r)
    (within-append c (slots_in_order l) (d.slot ∷ slots_in_order r) left
    (omega (arith, e, p.there), omega (arith, e), right))

-- a list in order
module _ {t : List ℕ} {c : ℕ} {list : List ℕ} {n : ℕ} (o : InOrder t c list n) where
  pub listed-count : n ≡ length (slots_in_order (tree_in t c))
  listed-count = sym (length-take-le n list o.within) ∙ ap length o.is

  pub listed-is : (i : ℕ) → i < n → get_or list i 0 ≡ get_or (slots_in_order (tree_in t c)) i 0
  listed-is i lt = sym (get_or-take n list i 0 lt) ∙ ap (λ (l : List ℕ). get_or l i 0) o.is

module _ {t : List ℕ} {c : ℕ} (w : Whole t c) where
  slots-within : Within c (slots_in_order (tree_in t c))
  slots-within =
      rw (tree-in t c w.sound)
      (spelled-within t c (word t root_word) w.sound.tree (header-root c t w.sound.header) w.sound.reached)

  -- there are as many as the header counts
  slots-count : length (slots_in_order (tree_in t c)) ≡ word t count_word
  slots-count = order-size (tree_in t c) ∙ ap size (tree-in t c w.sound) ∙ w.sound.count

  module _ {list : List ℕ} {n : ℕ} (o : InOrder t c list n) where
    pub listed-few : n ≤ c
    listed-few = omega (arith, listed-count o, slots-count, header-count c t w.sound.header)

    pub listed-slot : (i : ℕ) → i < n → InTable t (get_or list i 0)
    listed-slot i lt =
        let k = within-at c (slots_in_order (tree_in t c)) i slots-within (omega (arith, listed-count o, lt)) in
        in_table (get_or list i 0) w.sized (omega (arith, listed-is o i lt)) (omega (arith, listed-is o i lt))
