-- Demand 2: on a sound table drop answers and leaves what it does on the ledger. Assumes nothing.
use Prim.Native.Nat.{ℕ, ◌+◌}
use mathlib.Core.Path.{◌≡◌, refl, sym, ◌∙◌, ap}
use mathlib.Core.Bool.{not}
use mathlib.Core.Option.{Option, none, some}
use mathlib.Core.List.{List}
use native.Mathlib.Omega.{arith}
use lib.Dec.{eqb, ltb}
use borrow.Author.Tests.{ne_eqb}
use Rattle.scope.proofs.Bools.{by_bool}
use Rattle.scope.specs.Numbers.{root_link, last_change}
use Rattle.scope.specs.Table.{word, count_word, change_word}
use Rattle.scope.specs.Tree.{Batch, Tree}
use Rattle.scope.specs.Sound.{tree_in}
use Rattle.scope.specs.Answers.{accepted}
use Rattle.scope.specs.Walk.{none_passed}
use Rattle.scope.specs.Drop.{counted, if_may, dropping_at, drop_plan, dropped, drop_of}
use Rattle.scope.specs.declared.answer.Refusal.TheVariants.{OutOfRange, LastChange}
use Rattle.scope.specs.declared.outcome.Dropping.{Dropping}
use Rattle.scope.specs.declared.side.Link.{Link}
use Rattle.spelling.specs.Whole.{Whole}
use Rattle.spelling.proofs.Spell.{tree-in}
use Rattle.bridge.specs.Leads.{link_along}
use Rattle.tree.specs.Seek.{seek, route, visits, passed_to, sought, end_of}
use Rattle.bridge.specs.Planned.{Freed, Plans, lifts, moves}
use Rattle.bridge.proofs.Records.Dropped.{drop-planned, some-record, dropped-whole, dropped-sized, dropped-change}
use Rattle.ledger.specs.Entries.{Entry, remove}
use Rattle.ledger.specs.Ledger.{Ledger, Entered, lacking, entered, on_entry, drop_in}
use Rattle.demands.specs.Ledgers.{ledger_of, AsLedger}
use Rattle.ledger.specs.OfTree.{entries_of}
use Rattle.demands.proofs.Open.{header-gate, walk-tree}
use Rattle.ledger.proofs.Entries.{map_entry, without-entries}
use Rattle.demands.proofs.Second.Answers.{lookup-is}
use Rattle.demands.proofs.Second.Amending.{both-refuse, both-lack}
use Rattle.std.specs.Prelude.{Result}
use Rattle.scope.specs.declared.answer.Denial.{Denial}

module _ {t : List ℕ} {c : ℕ} (w : Whole t c) (key : ℕ) where
  abbrev T : Tree
  T = w.sound.tree

  abbrev L : Ledger
  L = ledger_of t c

  abbrev l : Link
  l = link_along t (route key T) root_link

  abbrev removed : List Entry
  removed = remove key L.entries

  abbrev next : Entered
  next = record {
    answer = accepted (word t change_word + 1) 0 0 0;
    ledger = record { entries = removed; change = word t change_word + 1; capacity = c };
  }

  module _ (d : Batch) (found : seek key T ≡ some d) where
    -- the record is out, and a slot is free
    done : (t₁ : List ℕ) (k : ℕ) → Freed t t₁ c l (end_of key T) k
        → AsLedger (record { answer = accepted (word t change_word + 1) k 0 0; words = counted t t₁ }) c next
    done t₁ k f =
        let s = dropped-whole w key d found k f in
        let es : entries_of (tree_in (counted t t₁) c) ≡ removed
        = ap entries_of s.tree ∙ without-entries key T w.sound.order
        ∙ ap (λ (x : Tree). remove key (entries_of x)) (sym (tree-in t c w.sound)) in
        record {
          answer = refl;
          whole = record { sized = dropped-sized w key d found k f; sound = s.sound };
          ledger = rw (es, dropped-change w key d found k f) refl;
        }

    planned : (plan : Result Dropping Denial) → Plans t c l (end_of key T) plan → AsLedger (dropped t plan) c next
    unfolding dropped
    planned plan (lifts f) = done _ _ f
    planned plan (moves f) = done _ _ f

    -- a sound table with a record counts it
    may : (plan : Result Dropping Denial) → Plans t c l (end_of key T) plan
        → AsLedger (dropped t (if_may t plan)) c (entered L removed)
    unfolding if_may
    may plan p =
        rw (ne_eqb (word t count_word) 0 (λ e. omega (arith, some-record w key d found)))
        (by_bool (ltb (word t change_word) last_change)
        (λ q. rw q (planned plan p))
        (λ q. rw q (unfold dropped in both-refuse w LastChange)))

  walked : (o : Option Batch) → seek key T ≡ o
      → AsLedger (dropped t (dropping_at t c (sought o l (passed_to key T none_passed) (visits key T)))) c
      (on_entry (map_entry o) (lacking key L) (entered L removed))
  unfolding dropping_at
  walked none e = unfold dropped in both-lack w key e
  walked (some d) e =
      let p = drop-planned w key d e in
      rw p.is (may d e p.plan p.plans)

-- DROP, its slot apart
pub drop-ledger : {t : List ℕ} {c : ℕ} → Whole t c → (key : ℕ)
    → AsLedger (drop_of t key) c (drop_in key (ledger_of t c))
unfolding drop_of drop_plan
drop-ledger {t} {c} w key =
    rw (header-gate w (not (eqb key 0)))
    (by_bool (eqb key 0)
    (λ e. rw e (unfold dropped in both-refuse w OutOfRange))
    (λ e. rw (e, ← lookup-is w key, walk-tree w key) (walked w key (seek key w.sound.tree) refl)))
