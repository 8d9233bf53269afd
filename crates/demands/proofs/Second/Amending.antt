-- Demand 2: on a sound table amend answers and leaves what it does on the ledger. Assumes nothing.
use Prim.Native.Nat.{ℕ, ◌+◌}
use mathlib.Core.Path.{◌≡◌, refl, sym, ◌∙◌, ap}
use mathlib.Core.Bool.{true}
use mathlib.Core.Option.{Option, none, some}
use mathlib.Core.List.{List}
use native.Mathlib.Omega.{arith}
use lib.ListN.{set, length, length-set}
use lib.Seq.{get_or-set_same}
use lib.Dec.{eqb, ltb}
use Rattle.scope.proofs.Bools.{by_bool}
use Rattle.scope.specs.Numbers.{root_link, last_change}
use Rattle.scope.specs.Table.{word, change_word, slot_at, with_slot, written}
use Rattle.scope.specs.Tree.{Batch, Tree}
use Rattle.scope.specs.Sound.{tree_in}
use Rattle.scope.specs.Answers.{code_of, absence, refused, missed}
use Rattle.scope.specs.Walk.{none_passed}
use Rattle.scope.specs.Fit.{record_ok}
use Rattle.scope.specs.Amend.{with_pieces, amending_at, amend_plan, amended, amend_of}
use Rattle.scope.specs.declared.answer.Refusal.{Refusal}
use Rattle.scope.specs.declared.answer.Refusal.TheVariants.{OutOfRange, LastChange}
use Rattle.scope.specs.declared.side.Link.{Link}
use Rattle.spelling.specs.Ready.{Sized}
use Rattle.spelling.specs.Whole.{Whole}
use Rattle.spelling.proofs.Spell.{tree-in}
use Rattle.bridge.specs.Leads.{link_along}
use Rattle.tree.specs.Seek.{seek, route, visits, passed_to, sought}
use Rattle.bridge.specs.Settled.{Spelled}
use Rattle.tree.proofs.Keys.Keyed.{amended_tree}
use Rattle.bridge.proofs.Links.Settles.{amended-whole}
use Rattle.ledger.specs.Entries.{replace}
use Rattle.ledger.specs.Ledger.{Ledger, entry, kept, lacking, entered, on_entry, amend_in}
use Rattle.demands.specs.Ledgers.{ledger_of, AsLedger}
use Rattle.ledger.specs.OfTree.{entries_of}
use Rattle.demands.proofs.Open.{header-gate, walk-tree}
use Rattle.ledger.proofs.Entries.{map_entry, amended-entries}
use Rattle.demands.proofs.Second.Answers.{near-is, lookup-is}

-- a refusal leaves both as they were
pub both-refuse : {t : List ℕ} {c : ℕ} → Whole t c → (why : Refusal)
    → AsLedger (refused t why) c (kept (ledger_of t c) why)
both-refuse w why =
    record { answer = by_bool (eqb (code_of why) 0) (λ p. rw p refl) (λ p. rw p refl); whole = w; ledger = refl }

-- and so does a key that is absent, with its neighbours
pub both-lack : {t : List ℕ} {c : ℕ} (w : Whole t c) (key : ℕ) → seek key w.sound.tree ≡ none
    → AsLedger (missed t (passed_to key w.sound.tree none_passed)) c (lacking key (ledger_of t c))
both-lack w key e = record { answer = ap absence (near-is w key e); whole = w; ledger = refl }

module _ {t : List ℕ} {c : ℕ} (w : Whole t c) (key pieces state : ℕ) (ok : record_ok key pieces state ≡ true) where
  abbrev T : Tree
  T = w.sound.tree

  abbrev L : Ledger
  L = ledger_of t c

  abbrev after : Batch → List ℕ
  after d = set (with_slot t d.slot (with_pieces (slot_at t d.slot) pieces state)) change_word (word t change_word + 1)

  module _ (d : Batch) (found : seek key T ≡ some d) where
    sound-after : Spelled (after d) c (amended_tree key pieces state T)
    sound-after = amended-whole w key pieces state ok d found (word t change_word + 1)

    long : length (after d) ≡ length t
    unfolding with_slot written
    long = simp length-set

    sized-after : Sized (after d) c
    sized-after = record { room = w.sized.room ∙ sym long; some = w.sized.some; most = w.sized.most }

    change-after : word (after d) change_word ≡ word t change_word + 1
    unfolding with_slot written
    change-after =
        get_or-set_same (with_slot t d.slot (with_pieces (slot_at t d.slot) pieces state)) change_word
        (word t change_word + 1) 0 (simp length-set (omega (arith, w.sized.room)))

    entries-after : entries_of (tree_in (after d) c) ≡ replace (entry key pieces state) L.entries
    entries-after =
        ap entries_of sound-after.tree ∙ amended-entries key pieces state T w.sound.order
        ∙ ap (λ (x : Tree). replace (entry key pieces state) (entries_of x)) (sym (tree-in t c w.sound))

    ledger-after : ledger_of (after d) c
        ≡ record { entries = replace (entry key pieces state) L.entries; change = word t change_word + 1; capacity = c }
    ledger-after = rw (entries-after, change-after) refl

  walked : (o : Option Batch) (l : Link) (n : ℕ) → seek key T ≡ o
      → AsLedger (amended t pieces state (amending_at t (sought o l (passed_to key T none_passed) n))) c
      (on_entry (map_entry o) (lacking key L) (entered L (replace (entry key pieces state) L.entries)))
  unfolding amended amending_at
  walked none l n e = both-lack w key e
  walked (some d) l n e =
      by_bool (ltb (word t change_word) last_change)
      (λ q. rw q (record {
        answer = refl;
        whole = record { sized = sized-after d e; sound = (sound-after d e).sound };
        ledger = ledger-after d e;
      }))
      (λ q. rw q (both-refuse w LastChange))

-- AMEND, its slot apart
pub amend-ledger : {t : List ℕ} {c : ℕ} → Whole t c → (key pieces state : ℕ)
    → AsLedger (amend_of t key pieces state) c (amend_in key pieces state (ledger_of t c))
unfolding amend_of amend_plan amended
amend-ledger {t} {c} w key pieces state =
    let T = w.sound.tree in
    rw (header-gate w (record_ok key pieces state))
    (by_bool (record_ok key pieces state)
    (λ ok. rw (ok, ← lookup-is w key, walk-tree w key)
    (walked w key pieces state ok (seek key T) (link_along t (route key T) root_link) (visits key T) refl))
    (λ no_Ok. rw no_Ok (both-refuse w OutOfRange)))
