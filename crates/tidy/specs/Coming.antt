-- What the scan knows of the slots that are not listed, and what it finds. Assumes nothing: these are statements.
use Rattle.std.specs.Prelude.{ℕ, ◌≤◌, ◌≡◌, true, false, List, Option, Some, None}
use Rattle.scope.specs.Tidy.{nodes_at, passes, link_to, next_of}
use Rattle.spelling.specs.Whole.{Whole}
use Rattle.bridge.specs.Due.{Due}
use Rattle.marks.specs.Marks.{bit_at}
use Rattle.tidy_holders.specs.Holds.{AllNoted}
use Rattle.tidy.specs.declared.notes.Notes.{Notes}
use Rattle.tidy.specs.declared.scan.Coming.{Coming}

-- no rule is due at slot k
abbrev pub NoneDue : List ℕ → ℕ → ℕ → Type 0
NoneDue t c k = (n : ℕ) → 1 ≤ n → n ≤ 8 → passes true t c k n ≡ false

-- EVERY SLOT AT WHICH A RULE IS DUE IS LISTED, and slot 0, which is none, is not
pub record DueListed (t : List ℕ) (c : ℕ) (m : List ℕ) : Type 0 where
  pub zero : bit_at m 0 ≡ 0
  pub unlisted : (k : ℕ) → 1 ≤ k → k ≤ c → bit_at m k ≡ 0 → NoneDue t c k

-- a sound table with its notes
pub record Running (t : List ℕ) (c : ℕ) (n : Notes) : Type 0 where
  pub whole : Whole t c
  pub holds : AllNoted t c n.holders.links
  pub listed : DueListed t c n.agenda

-- it is next, with its rule and its nodes
pub record NextAt (t : List ℕ) (c : ℕ) (m : List ℕ) (x : Coming) : Type 0 where
  pub next : next_of t c ≡ Some (x.slot, x.number)
  pub due : Due t c x.slot x.number
  pub rule : x.rule ≡ due.rule
  pub nodes : x.nodes ≡ nodes_at t due.rule (link_to t c x.slot) x.slot
  pub listed : DueListed t c m

abbrev pub Comes : List ℕ → ℕ → List ℕ → Option Coming → Type 0
Comes t c m (Some x) = NextAt t c m x
Comes t c m None = next_of t c ≡ None
