-- Demand 2: the ledger of a sound table is sorted by stamp and has the record of every slot in use. Assumes nothing.
use Prim.Native.Nat.{ℕ, ◌≤◌}
use mathlib.Core.Path.{◌≡◌, sym, ◌∙◌, ap}
use mathlib.Core.Option.{none, some}
use mathlib.Core.List.{List}
use native.Mathlib.Omega.{arith}
use native.Mathlib.Decide.{dec_le, ℕ_discrete}
use lib.ListN.{length}
use borrow.Author.Tests.{eq-eqb, ne_eqb, eqb-true}
use Rattle.scope.proofs.Bools.{never}
use Rattle.scope.specs.Table.{word, root_word, count_word, slot_at}
use Rattle.scope.specs.Tree.{Batch, Tree, leaf, node, times, Ordered}
use Rattle.scope.specs.Sound.{Spells, batch_at, tree_in}
use Rattle.spelling.specs.Whole.{Whole}
use Rattle.tree.proofs.Firing.Place.{same_none}
use Rattle.spelling.proofs.Slots.{blank-state}
use Rattle.ledger.specs.Entries.{Entry, lookup}
use Rattle.ledger.specs.Sorted.{Sorted}
use Rattle.ledger.specs.OfTree.{entry_of, entries_of}
use Rattle.ledger.proofs.Entries.{below_none, above-none, lookup-node, entries-size}
use Rattle.ledger.proofs.Sorted.{ordered-sorted}
use Rattle.demands.specs.Ledgers.{ledger_of}
use Rattle.demands.proofs.Open.{own_tree}

-- a record is not both there and not there
not_none : {X : Type 0} {e : Entry} → none ≡ some e → X
not_none q = never cc

-- what stands in a slot of an ordered tree is found by its key
module _ (t : List ℕ) (c k : ℕ) where
  abbrev key : ℕ
  key = (slot_at t k).key

  abbrev own : Entry
  own = entry_of (batch_at t k)

  found : (x : ℕ) (T : Tree) → Spells t c x T → Ordered T → 1 ≤ times k T → lookup key (entries_of T) ≡ some own
  unfolding Spells times Ordered
  found x leaf p h i = absurd (omega arith)
  found x (node d a b l r) p h i =
      elim (dec_le 1 (times k l)) [
        | yes in-l ↦ lookup-node key d a b l r ∙ rw (found (slot_at t x).left l p.left h.2 in-l)
        | no not-l ↦ elim (ℕ_discrete k d.slot) [
          | yes here ↦ let at : k ≡ x = here ∙ ap (λ (e : Batch). e.slot) p.holds in
              let is : d ≡ batch_at t k = p.holds ∙ ap (batch_at t) (sym at) in
              let same : key ≡ d.key = ap (λ (e : Batch). e.key) (sym is) in
              lookup-node key d a b l r
              ∙ rw (below_none key d.key l h.0 (omega arith), eq-eqb key d.key same, is)
          | no away ↦ let q = found (slot_at t x).right r p.right h.3 (omega (arith, same_none k d.slot away)) in
              elim (dec_le key d.key) [
                | yes le ↦ not_none (sym (above-none key d.key r h.1 le) ∙ q)
                | no gt ↦ lookup-node key d a b l r
                    ∙ rw (below_none key d.key l h.0 (omega arith), ne_eqb key d.key (λ e. omega arith), q)
              ]
        ]
      ]

module _ {t : List ℕ} {c : ℕ} (w : Whole t c) where
  -- EVERY SOUND TABLE'S LEDGER IS SORTED
  pub ledger-sorted : Sorted (ledger_of t c).entries
  ledger-sorted = ordered-sorted (tree_in t c) (own_tree w).sound.order

  -- IT HAS THE RECORD OF EVERY SLOT IN USE, and as many as word 1 counts
  pub ledger-has : (k : ℕ) → 1 ≤ k → k ≤ c → ((slot_at t k).state ≡ 0 → ⊥)
      → lookup (slot_at t k).key (ledger_of t c).entries ≡ some (entry_of (batch_at t k))
  ledger-has k i j used =
      let s = (own_tree w).sound in
      elim (dec_le 1 (times k (tree_in t c))) [
        | yes h ↦ found t c k (word t root_word) (tree_in t c) s.reached s.order h
        | no h ↦ absurd (used (eqb-true _ 0 (blank-state (slot_at t k) (s.rest k i j (omega arith)))))
      ]

  pub ledger-count : length (ledger_of t c).entries ≡ word t count_word
  ledger-count = entries-size (tree_in t c) ∙ (own_tree w).sound.count
