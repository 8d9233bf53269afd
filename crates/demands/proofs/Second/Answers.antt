-- Demand 2: on a sound table find, rank and total answer as the ledger does. Assumes nothing.
use Prim.Native.Nat.{ℕ}
use mathlib.Core.Path.{◌≡◌, refl, sym, ◌∙◌, ap}
use mathlib.Core.Bool.{true, cond, not}
use mathlib.Core.Option.{Option, none, some}
use mathlib.Core.List.{List}
use lib.ListN.{length, length-map}
use lib.Dec.{eqb, ltb, leb}
use Rattle.scope.proofs.Bools.{by_bool, never}
use Rattle.scope.specs.Numbers.{root_link}
use Rattle.scope.specs.Table.{word, root_word, change_word, slot_at}
use Rattle.scope.specs.Tree.{Batch, Tree, leaf, node, in_order}
use Rattle.scope.specs.Sound.{Spells, batch_at, tree_in}
use Rattle.scope.specs.Answers.{refusal, absence, accepted}
use Rattle.scope.specs.Walk.{none_passed}
use Rattle.scope.specs.Find.{found_in, find_answer}
use Rattle.scope.specs.Sums.{pick, rank_of, ranked, rank_answer, total_answer}
use Rattle.scope.specs.declared.answer.Refusal.TheVariants.{KeyAbsent}
use Rattle.scope.specs.declared.side.Link.{Link}
use Rattle.spelling.specs.Whole.{Whole}
use Rattle.spelling.proofs.Spell.{tree-in}
use Rattle.bridge.specs.Leads.{link_along}
use Rattle.tree.specs.Seek.{seek, route, visits, passed_to, sought}
use Rattle.ledger.specs.Entries.{lookup}
use Rattle.ledger.specs.Ledger.{neighbours, found_entry, find_in, rank_in, total_in}
use Rattle.demands.specs.Ledgers.{ledger_of, no_visits, no_slot}
use Rattle.ledger.specs.OfTree.{entry_of}
use Rattle.demands.proofs.Open.{header-gate, sound-gate, walk-tree}
use Rattle.ledger.proofs.Entries.{map_entry, seek-lookup, total-sum}
use Rattle.ledger.proofs.Passing.{passed-neighbours}

-- what a search finds stands in its slot
pub seek-slot : (t : List ℕ) (c key x : ℕ) (T : Tree) → Spells t c x T → (d : Batch) → seek key T ≡ some d
    → d ≡ batch_at t d.slot
unfolding Spells seek
seek-slot t c key x leaf p d e = never cc
seek-slot t c key x (node b h g l r) p d e =
    by_bool (eqb key b.key)
    (λ q. let same : b ≡ d = cc (simp q at e) in
    rw (← same) (p.holds ∙ ap (batch_at t) (ap (λ (y : Batch). y.slot) (sym p.holds))))
    (λ q. by_bool (ltb key b.key)
    (λ f. seek-slot t c key (slot_at t x).left l p.left d (simp (q, f) at e))
    (λ f. seek-slot t c key (slot_at t x).right r p.right d (simp (q, f) at e)))

module _ {t : List ℕ} {c : ℕ} (w : Whole t c) where
  abbrev T : Tree
  T = w.sound.tree

  -- the last keys passed on the way to an absent key are its neighbours in the ledger
  pub near-is : (key : ℕ) → seek key T ≡ none → passed_to key T none_passed ≡ neighbours key (ledger_of t c).entries
  near-is key e = rw (tree-in t c w.sound) (passed-neighbours key T w.sound.order e)

  found-is : (key : ℕ) (o : Option Batch) (l : Link) (n : ℕ) → seek key T ≡ o
      → no_visits (found_in t (sought o l (passed_to key T none_passed) n))
      ≡ found_entry (word t change_word) (neighbours key (ledger_of t c).entries) (map_entry o)
  unfolding found_in
  found-is key none l n e = ap absence (near-is key e)
  found-is key (some d) l n e =
      let at = seek-slot t c key (word t root_word) T w.sound.reached d e in
      let pieces : (slot_at t d.slot).pieces ≡ d.pieces = ap (λ (b : Batch). b.pieces) (sym at) in
      let state : (slot_at t d.slot).state ≡ d.state = ap (λ (b : Batch). b.state) (sym at) in
      rw (pieces, state) refl

  pub lookup-is : (key : ℕ) → map_entry (seek key T) ≡ lookup key (ledger_of t c).entries
  lookup-is key = rw (tree-in t c w.sound) (sym (seek-lookup key T w.sound.order))

  -- FIND, its visits apart
  pub find-ledger : (key : ℕ) → no_visits (find_answer t key) ≡ find_in key (ledger_of t c)
  unfolding find_answer
  find-ledger key =
      rw (header-gate w (not (eqb key 0)))
      (by_bool (eqb key 0)
      (λ e. rw e refl)
      (λ e. rw (e, walk-tree w key)
      (found-is key (seek key T) (link_along t (route key T) root_link) (visits key T) refl
      ∙ ap (found_entry (word t change_word) (neighbours key (ledger_of t c).entries)) (lookup-is key))))

  -- TOTAL
  pub total-ledger : (K : ℕ) → total_answer t K ≡ total_in K (ledger_of t c)
  unfolding total_answer
  total-ledger K = rw (sound-gate w true, total-sum K (tree_in t c)) refl

  -- RANK, its slot apart
  picked : (r : ℕ) → no_slot (ranked t (rank_of r (tree_in t c)))
      ≡ cond (leb r (length (ledger_of t c).entries)) (accepted (word t change_word) 0 0 0) (refusal KeyAbsent)
  unfolding ranked rank_of pick
  picked r =
      rw (length-map (in_order (tree_in t c)) (λ (d : Batch). d.slot), length-map (in_order (tree_in t c)) entry_of)
      (by_bool (leb r (length (in_order (tree_in t c)))) (λ e. rw e refl) (λ e. rw e refl))

  pub rank-ledger : (r : ℕ) → no_slot (rank_answer t r) ≡ rank_in r (ledger_of t c)
  unfolding rank_answer
  rank-ledger r =
      rw (sound-gate w (not (eqb r 0))) (by_bool (eqb r 0) (λ e. rw e refl) (λ e. rw e (picked r)))
