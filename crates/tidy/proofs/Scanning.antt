-- The scan under way: one law for each way on or out. Assumes nothing.
use Prim.Native.Nat.{ℕ, ◌+◌, ◌≤◌, ◌<◌}
use mathlib.Core.Path.{◌≡◌, refl, ◌∙◌}
use mathlib.Core.Bool.{true, false}
use mathlib.Core.List.{List}
use native.Mathlib.Omega.{arith}
use native.Mathlib.Decide.{ℕ_discrete}
use lib.ListN.{get_or}
use Rattle.scope.proofs.Bools.{and_l}
use Rattle.scope.specs.Numbers.{root_link, rule_of}
use Rattle.scope.specs.Table.{slot_at}
use Rattle.scope.specs.Tidy.{nodes_at, present, holds_at, due_at, passes, next_of}
use Rattle.scope.specs.declared.slot.Slot.{Slot}
use Rattle.scope.specs.declared.side.Link.{Link}
use Rattle.scope.specs.declared.rule.Rule.{Rule}
use Rattle.scope.specs.declared.outcome.Nodes.{Nodes}
use Rattle.spelling.specs.Whole.{Whole}
use Rattle.bridge.specs.Due.{Due}
use Rattle.marks.specs.Marks.{NoneMarked}
use Rattle.tidy_agenda.specs.Agenda.{LowestSlot}
use Rattle.tidy_sight.specs.Sight.{Present}
use Rattle.tidy_holders.specs.Codes.{link_numbered}
use Rattle.tidy_holders.specs.Holds.{AllNoted}
use Rattle.tidy_holders.proofs.Leaving.DueNodes.{link-noted}
use Rattle.tidy.specs.Coming.{NoneDue, DueListed, NextAt}
use Rattle.tidy.proofs.Order.{order-none, order-at}
use Rattle.std.specs.Prelude.{Some, None}

module _ {t : List ℕ} {c : ℕ} {m : List ℕ} (s : DueListed t c m) where
  pub none-next : c ≤ 4095 → NoneMarked m → next_of t c ≡ None
  unfolding next_of
  none-next small l =
      order-none (passes true t c) c 1 (λ k p q. s.unlisted k p (omega arith) (l k (omega arith)))

  module _ {v : ℕ} (l : LowestSlot m v) where
    none_below : (k : ℕ) → 1 ≤ k → k ≤ c → k < v → NoneDue t c k
    none_below k i j h = s.unlisted k i j (l.below k h)

    pub none-within : c < v → next_of t c ≡ None
    unfolding next_of
    none-within h = order-none (passes true t c) c 1 (λ k p q. none_below k p (omega arith) (omega arith))

    -- the lowest slot that is listed is one
    pub slot-first : 1 ≤ v
    slot-first =
        elim (ℕ_discrete v 0) [
          | yes e ↦ let on = rw e at l.listed in absurd (omega (arith, s.zero))
          | no ne ↦ omega arith
        ]

-- no rule below n is due at slot v
abbrev pub Tried : List ℕ → ℕ → ℕ → ℕ → Type 0
Tried t c v n = (j : ℕ) → 1 ≤ j → j < n → passes true t c v j ≡ false

pub tried-on : (t : List ℕ) (c v n : ℕ) → Tried t c v n → passes true t c v n ≡ false → Tried t c v (n + 1)
tried-on t c v n y e j p q = elim (ℕ_discrete j n) [ yes i ↦ rw i e | no i ↦ y j p (omega arith) ]

-- no number of an unknown rule passes
pub unknown-not : (t : List ℕ) (c v n : ℕ) → rule_of n ≡ None → passes true t c v n ≡ false
unfolding passes
unknown-not t c v n e = rw e refl

-- a rule that passes is due
passes-due : (t : List ℕ) (c v n : ℕ) {r : Rule} → rule_of n ≡ Some r → passes true t c v n ≡ true
    → due_at t c r v ≡ true
unfolding passes
passes-due t c v n e d = rw e at d

nodes-present : (t : List ℕ) (c : ℕ) (r : Rule) (v : ℕ) → due_at t c r v ≡ true
    → present c (nodes_at t r root_link v) ≡ true
unfolding due_at holds_at
nodes-present t c r v d = and_l _ _ (and_l _ _ d)

-- the first that is due, with its nodes
module _ {t : List ℕ} {c : ℕ} {h m : List ℕ} (w : Whole t c) (o : AllNoted t c h) (s : DueListed t c m)
    {v : ℕ} (l : LowestSlot m v) (most : v ≤ c) {n : ℕ} (y : Tried t c v n) (low : 1 ≤ n) (small : n ≤ 8) {r : Rule}
    (e : rule_of n ≡ Some r) (d : passes true t c v n ≡ true) where
  first : 1 ≤ v
  first = slot-first s l

  abbrev due_here : Due t c v n
  due_here = record { rule = r; is = e; first = first; most = most; due = passes-due t c v n e d }

  pub here-present : {x : Slot} → x ≡ slot_at t v → Present t c r v x
  here-present q = record { sized = w.sized; is = q; there = nodes-present t c r v due_here.due }

  pub next_here : {k : Link} {x : Nodes} → k ≡ link_numbered (get_or h v 0) → x ≡ nodes_at t r k v
      → NextAt t c m (record { slot = v; number = n; rule = r; nodes = x })
  unfolding next_of
  next_here q z = record {
    next = order-at (passes true t c) c 1 v n first (omega (arith, most))
        (λ i p f. none_below s l i p (omega (arith, most)) f) low small y d;
    due = due_here;
    rule = refl;
    nodes = rw (q ∙ link-noted w due_here o) at z;
    listed = s;
  }
