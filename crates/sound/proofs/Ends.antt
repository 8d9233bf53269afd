-- How the check ends: what the scan and the pass after it find is what the definition says. Assumes nothing.
use Prim.Native.Nat.{ℕ, ◌%◌, ◌≤◌, ◌<◌}
use mathlib.Core.Path.{◌≡◌, refl, sym, ap, ◌∙◌}
use mathlib.Core.Bool.{Bool, true, false}
use mathlib.Core.List.{List}
use native.Mathlib.Decide.{dec_le, ℕ_discrete}
use native.Mathlib.Omega.{arith}
use lib.Dec.{eqb}
use borrow.Author.Tests.{eq-eqb, ne_eqb, eqb-false, not-true}
use Rattle.scope.proofs.Bools.{and_l, and_r, by_bool, neither}
use Rattle.scope.specs.Numbers.{most_slots}
use Rattle.scope.specs.Table.{word, root_word, count_word, slot_at}
use Rattle.scope.specs.Fit.{state_ok, fit_slot, header_ok, blank_slot}
use Rattle.scope.specs.Tree.{Batch, Tree, leaf, node, size, times, Above, Below}
use Rattle.scope.specs.Sound.{Spells, sound_table, Sound}
use Rattle.scope.specs.declared.slot.Slot.{Slot}
use Rattle.marks.specs.Marks.{bit_at, Past}
use Rattle.marks.proofs.Laws.{bit-small}
use Rattle.marks.proofs.Passing.{all-on}
use Rattle.sound.specs.Scan.{Fine, Good, Scanned, settled_at, RestIs}
use Rattle.tree.proofs.Keys.Bounds.{bounded, between}
use Rattle.spelling.proofs.Spell.{unique}
use Rattle.std.specs.Prelude.{Option, Some, None}
use Rattle.spelling.proofs.Exact.{sound-test, unsound}
use Rattle.spelling.proofs.Once.{once-all}

-- one slot more is settled, and with it those that are passed over
pub settled-past : (t m : List ℕ) {k r : ℕ} → ((j : ℕ) → 1 ≤ j → j < k → settled_at t m j ≡ true)
    → settled_at t m k ≡ true → Past m k 18446744073709551615 r → (j : ℕ) → 1 ≤ j → j < r → settled_at t m j ≡ true
unfolding settled_at
settled-past t m {k} before here past j p q =
    elim (dec_le j k) [
      | yes h ↦ elim (ℕ_discrete j k) [ yes e ↦ rw e here | no ne ↦ before j p (omega arith) ]
      | no h ↦ rw (eq-eqb (bit_at m j) 1 (past.bits j (omega arith) q ∙ all-on (j % 64) (omega arith))) refl
    ]

module _ (t : List ℕ) (c : ℕ) where
  -- a fit slot's key is not 0
  key-some : (s : Slot) → fit_slot c s ≡ true → 0 < s.key
  unfolding fit_slot
  key-some s e =
      let p = and_r (state_ok s.state) _ (and_l _ _ (and_l _ _ (and_l _ _ (and_l _ _ e)))) in
      omega (arith, eqb-false s.key 0 (not-true _ p))

  module _ (small : (i : ℕ) → word t i < 4294967296) where
    key-small : (x : ℕ) → (slot_at t x).key < 4294967296
    unfolding slot_at
    key-small x = small _

    -- every key lies between the widest bounds
    bounds : (x : ℕ) (T : Tree) → Spells t c x T → Above 0 T × Below 4294967296 T
    unfolding Spells Above Below
    bounds x leaf p = (tt, tt)
    bounds x (node d a b l r) p =
        let el = bounds (slot_at t x).left l p.left in
        let er = bounds (slot_at t x).right r p.right in
        let k : d.key ≡ (slot_at t x).key = ap (λ (e : Batch). e.key) p.holds in
        ((omega (arith, key-some (slot_at t x) p.fit), el.0, er.0), (omega (arith, key-small x), el.1, er.1))

    module _ (z m : List ℕ) (zeros : (k : ℕ) → k < 4096 → bit_at z k ≡ 0) (most : c ≤ most_slots) where
      -- the tree of a sound table is what the scan looks for
      sound-fine : (s : Sound t c) → Fine t z c (word t root_word) 0 4294967296 s.tree
      sound-fine s =
          let b = bounds (word t root_word) s.tree s.reached in
          record {
            reached = s.reached;
            keys = between 0 4294967296 s.tree (record { above = b.0; below = b.1; order = s.order });
            free = λ k h. omega (arith, zeros k h, once-all t c s k);
          }

      -- the scan finds damage
      by-scan : ((T : Tree) → Fine t z c (word t root_word) 0 4294967296 T → size T ≤ word t count_word → ⊥)
          → sound_table t c ≡ false
      by-scan bad = unsound t c (λ s. bad s.tree (sound-fine s) (omega (arith, s.count)))

      module _ (n : ℕ) (g : Good t z m c (word t count_word) (word t root_word) 0 4294967296 n) where
        same-tree : (s : Sound t c) → s.tree ≡ g.tree
        same-tree s = unique t c c (word t root_word) s.tree g.tree s.reached g.fine.reached

        -- it reaches fewer slots than word 1 says
        by_count : (n ≡ 0 → ⊥) → sound_table t c ≡ false
        by_count ne = unsound t c (λ s. omega (arith, ne, s.count, g.used, ap size (same-tree s)))

        -- a slot is marked exactly if it is reached
        mark-is : (k : ℕ) → k ≤ c → bit_at m k ≡ times k g.tree
        mark-is k h = omega (arith, g.marked k (omega arith), zeros k (omega arith))

        settled_says : (k : ℕ) → k ≤ c → settled_at t m k ≡ true → times k g.tree ≡ 0 → blank_slot (slot_at t k) ≡ true
        unfolding settled_at
        settled_says k h e u =
            let z₁ : eqb (bit_at m k) 1 ≡ false = ne_eqb (bit_at m k) 1 (λ i. omega (arith, mark-is k h)) in
            simp z₁ at e

        settled-test : (k : ℕ) → k ≤ c → (times k g.tree ≡ 0 → blank_slot (slot_at t k) ≡ true)
            → settled_at t m k ≡ true
        unfolding settled_at
        settled-test k h f =
            by_bool (eqb (bit_at m k) 1) (λ e. simp e)
            (λ e. simp e (f (omega (arith, mark-is k h, bit-small m k, eqb-false (bit_at m k) 1 e))))

        by-rest : header_ok c t ≡ true → n ≡ 0 → (b : Bool) → RestIs t m c b → b ≡ sound_table t c
        by-rest h e true r =
            sym (sound-test t c
            (record {
              header = h;
              tree = g.tree;
              reached = g.fine.reached;
              once = λ k i j. omega (arith, g.fine.free k (omega arith));
              count = omega (arith, g.used);
              order = (bounded 0 4294967296 g.tree g.fine.keys).order;
              rest = λ k i j. settled_says k j (r k i j);
            }))
        by-rest h e false r =
            sym (unsound t c (λ s.
            neither
            (settled-test r.0 r.1.last
            (λ u. s.rest r.0 r.1.first r.1.last (ap (times r.0) (same-tree s) ∙ u)))
            r.1.not_so))

      -- the scan finds damage, or fewer slots than word 1 says
      pub by-missing : (o : Option ℕ) → (o ≡ Some 0 → ⊥)
          → Scanned t z m c (word t count_word) (word t root_word) 0 4294967296 o → sound_table t c ≡ false
      by-missing None ne s = by-scan s
      by-missing (Some n) ne s = by_count n s (λ e. ne (ap Some e))

      -- the scan reaches as many as word 1 says
      pub by-pass : header_ok c t ≡ true → (o : Option ℕ) → o ≡ Some 0
          → Scanned t z m c (word t count_word) (word t root_word) 0 4294967296 o
          → (b : Bool) → RestIs t m c b → b ≡ sound_table t c
      by-pass h o e s b r = by-rest 0 (rw e at s) h refl b r
