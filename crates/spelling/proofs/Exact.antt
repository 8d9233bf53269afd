-- The test of soundness passes exactly where the statement holds. Assumes nothing.
use Prim.Native.Nat.{ℕ, zero, suc, ◌≤◌}
use mathlib.Core.Path.{◌≡◌, refl}
use mathlib.Core.Bool.{true, false, ◌&&◌}
use mathlib.Core.Option.{Option, none, some}
use mathlib.Core.List.{List}
use native.Mathlib.Decide.{dec_le}
use native.Mathlib.Omega.{arith}
use lib.Dec.{eqb}
use borrow.Author.Tests.{eq-eqb, eqb-true, eqb-false}
use Rattle.scope.proofs.Bools.{and_l, and_r, by_bool, neither, both}
use Rattle.scope.specs.Table.{word, root_word, count_word, slot_at}
use Rattle.scope.specs.Fit.{header_ok, blank_slot}
use Rattle.scope.specs.Tree.{Tree, size, times, ordered}
use Rattle.scope.specs.Sound.{root_tree, slot_ok, slots_ok, sound_tree, sound_table, Sound}
use Rattle.tree.proofs.Keys.Bounds.{ordered-says, ordered-test}
use Rattle.spelling.proofs.Spell.{tree-spells, root-tree}

-- a slot is reached at most once, and blank where it is not reached
pub record SlotSettled (t : List ℕ) (T : Tree) (k : ℕ) : Type 0 where
  pub once : times k T ≤ 1
  pub rest : times k T ≡ 0 → blank_slot (slot_at t k) ≡ true

module _ (t : List ℕ) (T : Tree) where
  slot-says : (k : ℕ) → slot_ok t T k ≡ true → SlotSettled t T k
  unfolding slot_ok
  slot-says k e =
      by_bool (eqb (times k T) 1)
      (λ p. let i = eqb-true (times k T) 1 p in record { once = omega arith; rest = λ z. absurd (omega arith) })
      (λ p. let q = simp p at e in
      let i = eqb-true (times k T) 0 (and_l _ _ q) in
      record { once = omega arith; rest = λ z. and_r (eqb (times k T) 0) _ q })

  slot-test : (k : ℕ) → SlotSettled t T k → slot_ok t T k ≡ true
  unfolding slot_ok
  slot-test k s =
      by_bool (eqb (times k T) 1)
      (λ p. simp p)
      (λ p. let z : times k T ≡ 0 = omega (arith, s.once, eqb-false (times k T) 1 p) in
      simp p (both (eq-eqb _ _ z) (s.rest z)))

  slots-say : (c : ℕ) → slots_ok t T c ≡ true → (k : ℕ) → 1 ≤ k → k ≤ c → slot_ok t T k ≡ true
  unfolding slots_ok
  slots-say zero e k p q = absurd (omega arith)
  slots-say (suc c) e k p q =
      elim (dec_le k c) [
        | yes h ↦ slots-say c (and_r (slot_ok t T (suc c)) _ e) k p h
        | no h ↦ let top : suc c ≡ k = omega arith in rw (← top) (and_l _ _ e)
      ]

  slots-test : (c : ℕ) → ((k : ℕ) → 1 ≤ k → k ≤ c → slot_ok t T k ≡ true) → slots_ok t T c ≡ true
  unfolding slots_ok
  slots-test zero h = refl
  slots-test (suc c) h = both (h (suc c) (omega arith) (omega arith)) (slots-test c (λ k p q. h k p (omega arith)))

module _ (t : List ℕ) (c : ℕ) where
  -- what holds is tested true
  pub sound-test : Sound t c → sound_table t c ≡ true
  unfolding sound_table sound_tree
  sound-test s =
      both s.header
      (rw (root-tree t c s)
      (both (both (eq-eqb _ _ s.count) (ordered-test _ s.order))
      (slots-test t s.tree c (λ k p q. slot-test t s.tree k (record { once = s.once k p q; rest = s.rest k p q })))))

  from-tree : header_ok c t ≡ true → (o : Option Tree) → root_tree t c ≡ o → sound_tree t c o ≡ true → Sound t c
  unfolding sound_tree
  from-tree h none p q = neither q refl
  from-tree h (some T) p q =
      let test = and_l (eqb (size T) (word t count_word) && ordered T) (slots_ok t T c) q in
      let slots : (k : ℕ) → 1 ≤ k → k ≤ c → SlotSettled t T k =
      λ k i j. slot-says t T k (slots-say t T c (and_r (eqb (size T) (word t count_word) && ordered T) _ q) k i j) in
      record {
        header = h;
        tree = T;
        reached = tree-spells t c c (word t root_word) T p;
        once = λ k i j. (slots k i j).once;
        count = eqb-true _ _ (and_l _ _ test);
        order = ordered-says T (and_r (eqb (size T) (word t count_word)) _ test);
        rest = λ k i j. (slots k i j).rest;
      }

  -- what is tested true holds
  pub sound-says : sound_table t c ≡ true → Sound t c
  unfolding sound_table
  sound-says e = from-tree (and_l _ _ e) (root_tree t c) refl (and_r (header_ok c t) _ e)

  pub unsound : (Sound t c → ⊥) → sound_table t c ≡ false
  unsound none' = by_bool (sound_table t c) (λ e. absurd (none' (sound-says e))) (λ e. e)
