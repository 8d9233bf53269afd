-- Demand 2: on a sound table post answers and leaves what it does on the ledger. Assumes nothing.
use Prim.Native.Nat.{ℕ, ◌+◌, ◌≤◌}
use mathlib.Core.Path.{◌≡◌, refl, sym, ◌∙◌, ap}
use mathlib.Core.Bool.{true, cond}
use mathlib.Core.Option.{Option, none, some}
use mathlib.Core.List.{List}
use native.Mathlib.Omega.{arith}
use lib.ListN.{length}
use lib.Dec.{ltb}
use borrow.Author.Tests.{ne_eqb, lt-ltb, le-ltb}
use Rattle.scope.proofs.Bools.{by_bool}
use Rattle.scope.specs.Numbers.{root_link, last_change}
use Rattle.scope.specs.Table.{word, count_word, change_word}
use Rattle.scope.specs.Tree.{Batch, Tree, size}
use Rattle.scope.specs.Sound.{tree_in}
use Rattle.scope.specs.Fit.{record_ok}
use Rattle.scope.specs.Post.{free_slot, hang_at, posting_at, post_plan, leaf_slot, posted, post_of}
use Rattle.scope.specs.declared.answer.Refusal.TheVariants.{OutOfRange, KeyPresent, NoFreeSlot, LastChange}
use Rattle.scope.specs.declared.outcome.Passed.{Passed}
use Rattle.scope.specs.declared.side.Link.{Link}
use Rattle.scope.specs.Walk.{none_passed}
use Rattle.spelling.specs.Whole.{Whole}
use Rattle.spelling.proofs.Spell.{tree-in}
use Rattle.bridge.specs.Leads.{link_along}
use Rattle.tree.specs.Seek.{seek, route, visits, passed_to, sought}
use Rattle.bridge.proofs.Records.Free.{FreeIs, free, full, free-slot, unreached, room-left, no_room}
use Rattle.bridge.proofs.Records.Posts.{posted-whole, posted-sized, posted-change}
use Rattle.ledger.specs.Entries.{Entry, insert}
use Rattle.ledger.specs.Ledger.{Ledger, entry, kept, entered, on_entry, post_in}
use Rattle.demands.specs.Ledgers.{ledger_of, AsLedger}
use Rattle.ledger.specs.OfTree.{entries_of}
use Rattle.demands.proofs.Open.{header-gate, walk-tree}
use Rattle.ledger.proofs.Entries.{map_entry, entries-size, grown-entries}
use Rattle.demands.proofs.Second.Answers.{lookup-is}
use Rattle.demands.proofs.Second.Amending.{both-refuse}

module _ {t : List ℕ} {c : ℕ} (w : Whole t c) (key pieces state : ℕ) (ok : record_ok key pieces state ≡ true) where
  abbrev T : Tree
  T = w.sound.tree

  abbrev L : Ledger
  L = ledger_of t c

  records : length L.entries ≡ size T
  records = rw (tree-in t c w.sound) (entries-size T)

  abbrev inserted : List Entry
  inserted = insert (entry key pieces state) L.entries

  module _ (absent : seek key T ≡ none) where
    abbrev l : Link
    l = link_along t (route key T) root_link

    -- what becomes of the lowest free slot, if there is one
    hangs : (k : ℕ) → FreeIs t 1 (1 + c) k
        → AsLedger (posted t (leaf_slot key pieces state) (hang_at t c l k)) c
        (cond (ltb (length L.entries) c) (entered L inserted) (kept L NoFreeSlot))
    unfolding posted hang_at
    hangs k (full h) =
        let most = no_room w (λ j i m. h j i (omega arith)) in
        rw (le-ltb (length L.entries) c (omega (arith, records))) (both-refuse w NoFreeSlot)
    hangs k (free first low high e) =
        let most : k ≤ c = omega arith in
        let z = unreached w k e in
        let room = room-left w k first most z in
        let blank = w.sound.rest k first most z in
        let new : Batch = record { slot = k; key = key; pieces = pieces; state = state } in
        let s = posted-whole w key pieces state ok absent k first most z room in
        let es : entries_of (tree_in _ c) ≡ inserted
        = ap entries_of s.tree ∙ grown-entries new T absent w.sound.order
        ∙ ap (λ (x : Tree). insert (entry key pieces state) (entries_of x)) (sym (tree-in t c w.sound)) in
        let change = posted-change w key pieces state ok absent k first most z room in
        rw (
          lt-ltb (length L.entries) c (omega (arith, records)),
          ne_eqb k 0 (λ q. omega arith),
          blank,
          lt-ltb (word t count_word) c (omega (arith, w.sound.count)),
        )
        (by_bool (ltb (word t change_word) last_change)
        (λ q. rw q (record {
          answer = refl;
          whole = record { sized = posted-sized w key pieces state ok absent k first most z room; sound = s.sound };
          ledger = rw (es, change) refl;
        }))
        (λ q. rw q (both-refuse w LastChange)))

  walked : (o : Option Batch) → seek key T ≡ o → (p : Passed) (n : ℕ)
      → AsLedger (posted t (leaf_slot key pieces state) (posting_at t c (sought o (link_along t (route key T) root_link) p n))) c
      (on_entry (map_entry o) (cond (ltb (length L.entries) c) (entered L inserted) (kept L NoFreeSlot)) (kept L KeyPresent))
  unfolding posted posting_at
  walked none e p n = hangs e (free_slot t c) (free-slot t c)
  walked (some d) e p n = both-refuse w KeyPresent

-- POST, its slot apart
pub post-ledger : {t : List ℕ} {c : ℕ} → Whole t c → (key pieces state : ℕ)
    → AsLedger (post_of t key pieces state) c (post_in key pieces state (ledger_of t c))
unfolding post_of post_plan posted
post-ledger {t} {c} w key pieces state =
    rw (header-gate w (record_ok key pieces state))
    (by_bool (record_ok key pieces state)
    (λ ok. rw (ok, ← lookup-is w key, walk-tree w key)
    (walked w key pieces state ok (seek key w.sound.tree) refl (passed_to key w.sound.tree none_passed) (visits key w.sound.tree)))
    (λ no_Ok. rw no_Ok (both-refuse w OutOfRange)))
