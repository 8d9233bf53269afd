-- What the tests at the lowest free slot come to, one law for each way out. Assumes nothing.
use Prim.Native.Nat.{ℕ, ◌≤◌, ◌<◌}
use mathlib.Core.Path.{◌≡◌, sym}
use mathlib.Core.Bool.{Bool, true, false, ◌&&◌}
use mathlib.Core.List.{List}
use native.Mathlib.Omega.{arith}
use borrow.Author.Tests.{eq-eqb, ne_eqb, lt-ltb, le-ltb, ltb-true}
use lib.Dec.{ltb}
use Rattle.scope.proofs.Bools.{and_r}
use Rattle.scope.specs.Numbers.{last_change}
use Rattle.scope.specs.Table.{word, count_word, change_word, slot_at}
use Rattle.scope.specs.Fit.{blank_slot}
use Rattle.scope.specs.Post.{hang_at}
use Rattle.scope.specs.declared.slot.Slot.{Slot}
use Rattle.scope.specs.declared.side.Link.{Link}
use Rattle.scope.specs.declared.answer.Refusal.TheVariants.{Damaged, NoFreeSlot, LastChange}
use Rattle.spelling.specs.Ready.{Ready}
use Rattle.post.specs.Planned.{PostPlanned}
use Rattle.std.specs.Prelude.{Ok, Err}

module _ (t : List ℕ) (c : ℕ) (link : Link) (k : ℕ) where
  pub hang-none : k ≡ 0 → PostPlanned t (hang_at t c link k) (Err NoFreeSlot)
  unfolding hang_at
  hang-none z = record { is = simp (eq-eqb _ _ z); can = tt }

  -- slot k was read as s and tested, and n records are counted
  module _ {s : Slot} {blank : Bool} {n : ℕ} (there : k ≡ 0 → ⊥) (read : s ≡ slot_at t k)
      (tested : blank ≡ blank_slot s) (counted : n ≡ word t count_word) where
    pub hang-damaged : (blank && ltb n c) ≡ false → PostPlanned t (hang_at t c link k) (Err Damaged)
    unfolding hang_at
    hang-damaged bad = record {
      is = simp (ne_eqb k 0 there, sym read, sym tested, sym counted, bad);
      can = tt;
    }

    -- v is the change number
    module _ {v : ℕ} (good : (blank && ltb n c) ≡ true) (numbered : v ≡ word t change_word) where
      pub hang-last : last_change ≤ v → PostPlanned t (hang_at t c link k) (Err LastChange)
      unfolding hang_at
      hang-last le = record {
        is = simp (ne_eqb k 0 there, sym read, sym tested, sym counted, good, sym numbered, le-ltb _ _ le);
        can = tt;
      }

      pub hang-here : Ready t c × (link.holder ≤ c) × (k ≤ c) → v < last_change
          → PostPlanned t (hang_at t c link k) (Ok (record { slot = k; link = link }))
      unfolding hang_at
      hang-here p lt = record {
        is = simp (ne_eqb k 0 there, sym read, sym tested, sym counted, good, sym numbered, lt-ltb _ _ lt);
        can = record {
          placed = record { slots = c; ready = p.0; first = omega arith; last = p.2 };
          held = p.1;
          count = omega (arith, ltb-true n c (and_r blank _ good));
          change = omega arith;
        };
      }
