-- No number is reached twice in a sound table; with a bad header a table is not sound. Assumes nothing.
use Prim.Native.Nat.{ℕ, ◌≤◌}
use mathlib.Core.Path.{◌≡◌, refl}
use mathlib.Core.Bool.{false}
use mathlib.Core.List.{List}
use native.Mathlib.Decide.{dec_le}
use native.Mathlib.Omega.{arith}
use borrow.Author.Tests.{ne_eqb}
use Rattle.scope.specs.Table.{word, root_word, slot_at}
use Rattle.scope.specs.Fit.{header_ok}
use Rattle.scope.specs.Tree.{Tree, leaf, node, same, times}
use Rattle.scope.specs.Sound.{Spells, sound_table, Sound}
use Rattle.spelling.proofs.Laws.{header-root, fit-left, fit-right}

module _ (t : List ℕ) (c : ℕ) where
  -- the header is bad
  pub by-header : header_ok c t ≡ false → sound_table t c ≡ false
  unfolding sound_table
  by-header e = simp e

  -- a number that is no slot is not reached
  pub outside : (k : ℕ) → ((y : ℕ) → 1 ≤ y → y ≤ c → k ≡ y → ⊥) → (x : ℕ) (T : Tree) → x ≤ c → Spells t c x T
      → times k T ≡ 0
  unfolding Spells times
  outside k h x leaf q p = refl
  outside k h x (node d a b l r) q p =
      let el = outside k h (slot_at t x).left l (fit-left c (slot_at t x) p.fit).0 p.left in
      let er = outside k h (slot_at t x).right r (fit-right c (slot_at t x) p.fit).0 p.right in
      let here : same k d.slot ≡ 0 = rw (p.holds, ne_eqb k x (h x p.there q)) refl in
      omega arith

  -- so no number is reached twice, if no slot is
  pub once-all : (s : Sound t c) → (k : ℕ) → times k s.tree ≤ 1
  once-all s k = go (dec_le 1 k) (dec_le k c)
    where
      past : ((y : ℕ) → 1 ≤ y → y ≤ c → k ≡ y → ⊥) → times k s.tree ≤ 1
      past h = omega (arith, outside k h (word t root_word) s.tree (header-root c t s.header) s.reached)

      go : Dec (1 ≤ k) → Dec (k ≤ c) → times k s.tree ≤ 1
      go (yes i) (yes j) = s.once k i j
      go (yes i) (no j) = past (λ y u v e. omega arith)
      go (no i) d = past (λ y u v e. omega arith)
