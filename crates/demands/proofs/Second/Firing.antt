-- Demand 2: start gives the empty ledger; a firing, accepted or not, leaves the ledger as it was. Assumes nothing.
use Prim.Native.Nat.{ℕ}
use mathlib.Core.Path.{◌≡◌, refl, sym, ◌∙◌, ap}
use mathlib.Core.Bool.{true}
use mathlib.Core.List.{List, [], map}
use native.Mathlib.Omega.{arith}
use native.Mathlib.Decide.{ℕ_discrete}
use lib.ListN.{length-replicate, get_or-replicate}
use Rattle.scope.specs.Table.{table_words, word, change_word}
use Rattle.scope.specs.Tree.{leaf, in_order}
use Rattle.scope.specs.Sound.{Spells, tree_in}
use Rattle.scope.specs.Answers.{Done, accepted, gate}
use Rattle.scope.specs.Find.{start_of}
use Rattle.scope.specs.Calls.{Fire}
use Rattle.spelling.specs.Ready.{Sized}
use Rattle.spelling.specs.Whole.{Whole}
use Rattle.spelling.proofs.Spell.{only-tree}
use Rattle.spelling.proofs.Zeros.{zeros, zeros-hold}
use Rattle.bridge.specs.Fired.{Fired}
use Rattle.ledger.specs.OfTree.{entries_of, entry_of}
use Rattle.demands.specs.Fires.{Trial, tried_on, Accepted}
use Rattle.demands.specs.Firing.{Enabled}
use Rattle.demands.specs.Ledgers.{ledger_of}
use Rattle.demands.proofs.Open.{gate-is}
use Rattle.demands.proofs.First.Listed.{refused-words}
use Rattle.demands.proofs.Second.Exact.{fire-exact}
use Rattle.std.specs.Prelude.{Ok}

-- sound again, and the same ledger
pub record SameLedger (t : List ℕ) (c : ℕ) (d : Done) : Type 0 where
  pub whole : Whole d.words c
  pub ledger : ledger_of d.words c ≡ ledger_of t c

-- an attempted firing is accepted and does what it does, or it is refused and leaves every word
pub data Fares (t : List ℕ) (c : ℕ) (x : Trial) : Type 0 where
  acted : (e : Enabled t c x) → Accepted t x → Fired t (tried_on t x).words c (tree_in t c) e.tree → Fares t c x
  unmoved : (Accepted t x → ⊥) → (tried_on t x).words ≡ t → Fares t c x

pub fares : {t : List ℕ} {c : ℕ} → Whole t c → (x : Trial) → Fares t c x
fares {t} w x =
    let f = fire-exact w x in
    elim (ℕ_discrete (tried_on t x).answer.code 0) [
      | yes z ↦ let e = f.accepts.only_if z in acted e z (f.acts e)
      | no ne ↦ unmoved ne (refused-words (Fire x.rule x.holder x.side) t ne)
    ]

same : {t : List ℕ} {c : ℕ} → Whole t c → (x : Trial) → Fares t c x → SameLedger t c (tried_on t x)
same {t} {c} w x (acted e z f) =
    let es : entries_of (tree_in (tried_on t x).words c) ≡ entries_of (tree_in t c)
    = ap entries_of f.tree ∙ ap (map entry_of) f.records in
    record { whole = f.whole; ledger = rw (es, f.head change_word (omega arith) (omega arith)) refl }
same w x (unmoved ne e) = rw e (record { whole = w; ledger = refl })

-- FIRE leaves the ledger as it was
pub fire-ledger : {t : List ℕ} {c : ℕ} → Whole t c → (x : Trial) → SameLedger t c (tried_on t x)
fire-ledger w x = same w x (fares w x)

-- START on a table of any size: accepted, and the empty ledger
pub record Started (c : ℕ) (d : Done) : Type 0 where
  pub answer : d.answer ≡ accepted 0 0 0 0
  pub whole : Whole d.words c
  pub ledger : ledger_of d.words c ≡ record { entries = []; change = 0; capacity = c }

empty-tree : (c : ℕ) → tree_in (zeros c) c ≡ leaf
unfolding Spells
empty-tree c = sym (only-tree (zeros c) c (zeros-hold c) leaf (get_or-replicate (table_words c) 0 0 0 (omega arith)))

zeros-started : (c : ℕ) → Sized (zeros c) c → Started c (record { answer = accepted 0 0 0 0; words = zeros c })
unfolding in_order
zeros-started c z =
    let none_yet : word (zeros c) change_word ≡ 0 = get_or-replicate (table_words c) change_word 0 0 (omega arith) in
    record {
      answer = refl;
      whole = record { sized = z; sound = zeros-hold c };
      ledger = rw (ap entries_of (empty-tree c), none_yet) refl;
    }

pub start-ledger : {t : List ℕ} {c : ℕ} → Sized t c → Started c (start_of t)
unfolding start_of
start-ledger {t} {c} z =
    let opens : gate t true (λ n. true) ≡ Ok c = gate-is (λ n. true) z refl true in
    rw (opens, ← z.room)
    (zeros-started c (record { room = sym (length-replicate (table_words c) 0); some = z.some; most = z.most }))
