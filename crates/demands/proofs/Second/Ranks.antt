-- Demand 2: the record that stands in the slot that rank answers is the ledger's of that rank. Assumes nothing.
use Prim.Native.Nat.{ℕ, zero, suc, ◌-◌, ◌≤◌, ◌<◌}
use mathlib.Core.Path.{◌≡◌, refl, sym, ◌∙◌, ap}
use mathlib.Core.Bool.{not}
use mathlib.Core.Option.{none, some}
use mathlib.Core.List.{List, [], ◌∷◌, ◌++◌, map}
use native.Mathlib.Omega.{arith}
use lib.ListN.{length, get_or, length-map}
use lib.Dec.{eqb, leb}
use borrow.Author.Tests.{ne_eqb, eqb-true, eqb-false, leb-true, leb-false}
use Rattle.scope.proofs.Bools.{by_bool}
use Rattle.scope.specs.Table.{word, root_word, slot_at}
use Rattle.scope.specs.Tree.{Batch, Tree, leaf, node, in_order}
use Rattle.scope.specs.Sound.{Spells, batch_at, tree_in}
use Rattle.scope.specs.Sums.{slots_in_order, pick, rank_of, ranked, rank_answer}
use Rattle.spelling.specs.Whole.{Whole}
use Rattle.ledger.specs.Entries.{Entry, nth}
use Rattle.ledger.specs.OfTree.{entry_of, entries_of}
use Rattle.demands.specs.Ledgers.{ledger_of, standing}
use Rattle.demands.proofs.Open.{own_tree, sound-gate}

-- every record of a list stands in its slot
abbrev Stand : List ℕ → List Batch → Type 0
Stand t [] = Unit {0}
Stand t (d ∷ ds) = (1 ≤ d.slot) × (d ≡ batch_at t d.slot) × Stand t ds

stand-append : (t : List ℕ) (xs ys : List Batch) → Stand t xs → Stand t ys → Stand t (xs ++ ys)
stand-append t [] ys h k = k
stand-append t (x ∷ xs) ys h k = (h.0, h.1, stand-append t xs ys h.2 k)

spelled-stand : (t : List ℕ) (c x : ℕ) (T : Tree) → Spells t c x T → Stand t (in_order T)
unfolding Spells in_order
spelled-stand t c x leaf p = tt
spelled-stand t c x (node d a b l r) p =
    let at : x ≡ d.slot = ap (λ (e : Batch). e.slot) (sym p.holds) in
    stand-append t (in_order l) (d ∷ in_order r) (spelled-stand t c (slot_at t x).left l p.left)
    (rw (← at) p.there, p.holds ∙ ap (batch_at t) at, spelled-stand t c (slot_at t x).right r p.right)

abbrev batch_slot : Batch → ℕ
batch_slot d = d.slot

-- the n-th slot, counted from 0, holds the record with one rank more
nth-stands : (t : List ℕ) (ds : List Batch) (n : ℕ) → Stand t ds → suc n ≤ length ds
    → standing t (get_or (map batch_slot ds) n 0) ≡ nth (suc n) (map entry_of ds)
unfolding nth
nth-stands t [] n s h = absurd (omega arith)
nth-stands t (d ∷ ds) zero s h =
    rw (ne_eqb d.slot 0 (λ e. omega (arith, s.0))) (ap (λ (e : Batch). some (entry_of e)) (sym s.1))
nth-stands t (d ∷ ds) (suc n) s h =
    let down : suc (suc n) - 1 ≡ suc n = omega arith in
    rw (ne_eqb (suc (suc n)) 1 (λ e. omega arith), down) (nth-stands t ds n s.2 (omega arith))

-- no record has the rank 0, nor one above the count
nth-none : (es : List Entry) → nth 0 es ≡ none
unfolding nth
nth-none [] = refl
nth-none (e ∷ es) = nth-none es

nth_past : (r : ℕ) (es : List Entry) → length es < r → nth r es ≡ none
unfolding nth
nth_past r [] h = refl
nth_past r (e ∷ es) h = rw (ne_eqb r 1 (λ q. omega arith)) (nth_past (r - 1) es (omega arith))

module _ {t : List ℕ} {c : ℕ} (w : Whole t c) (r : ℕ) where
  abbrev ds : List Batch
  ds = in_order (tree_in t c)

  picked : 1 ≤ r → standing t (ranked t (rank_of r (tree_in t c))).value ≡ nth r (entries_of (tree_in t c))
  unfolding ranked rank_of pick
  picked i =
      let s = spelled-stand t c (word t root_word) (tree_in t c) (own_tree w).sound.reached in
      let long = length-map ds batch_slot in
      by_bool (leb r (length (slots_in_order (tree_in t c))))
      (λ p. let one : suc (r - 1) ≡ r = omega arith in
      rw p (nth-stands t ds (r - 1) s (omega (arith, leb-true r (length (map batch_slot ds)) p, long))
      ∙ ap (λ (m : ℕ). nth m (map entry_of ds)) one))
      (λ p. let few = leb-false r (length (map batch_slot ds)) p in
      rw p (sym (nth_past r (map entry_of ds) (omega (arith, few, long, length-map ds entry_of)))))

  -- THE SLOT THAT RANK ANSWERS holds the ledger's record of that rank, and a refusal shows none
  pub rank-record : standing t (rank_answer t r).value ≡ nth r (ledger_of t c).entries
  unfolding rank_answer
  rank-record =
      rw (sound-gate w (not (eqb r 0)))
      (by_bool (eqb r 0)
      (λ e. rw (eqb-true r 0 e) (sym (nth-none (entries_of (tree_in t c)))))
      (λ e. rw e (picked (omega (arith, eqb-false r 0 e)))))
