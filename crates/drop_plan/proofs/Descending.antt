-- The way down to the leftmost slot: what is left of it gives the whole answer. Assumes nothing.
use Prim.Native.Nat.{ℕ, suc, ◌-◌, ◌≤◌}
use mathlib.Core.Path.{◌≡◌, sym, ◌∙◌}
use mathlib.Core.Bool.{Bool, true, false}
use mathlib.Core.List.{List}
use native.Mathlib.Omega.{arith}
use borrow.Author.Tests.{eq-eqb, ne_eqb}
use Rattle.scope.specs.Table.{slot_at}
use Rattle.scope.specs.Fit.{fit_slot}
use Rattle.scope.specs.Drop.{leftmost_from}
use Rattle.scope.specs.declared.slot.Slot.{Slot}
use Rattle.scope.specs.declared.side.Side.TheVariants.{Left}
use Rattle.scope.specs.declared.side.Link.{Link}
use Rattle.scope.specs.declared.outcome.Leftmost.{Leftmost}
use Rattle.spelling.proofs.Laws.{fit-left, fit-right}
use Rattle.drop_plan.specs.Planned.{LeastReached}
use Rattle.std.specs.Prelude.{Option, Some, None}

pub record Descending (t : List ℕ) (c : ℕ) (end : Option Leftmost) (more at : ℕ) (held : Link) : Type 0 where
  pub rest : leftmost_from more t c at held ≡ end
  pub first : 1 ≤ at
  pub last : at ≤ c
  pub holder : held.holder ≤ c

module _ (t : List ℕ) (c at : ℕ) (held : Link) where
  spent : (n : ℕ) → n ≡ 0 → leftmost_from n t c at held ≡ None
  unfolding leftmost_from
  spent n e = rw e

  unfit : (n m : ℕ) → n ≡ suc m → fit_slot c (slot_at t at) ≡ false → leftmost_from n t c at held ≡ None
  unfolding leftmost_from
  unfit n m e f = rw e (simp f)

  here : (n m : ℕ) → n ≡ suc m → fit_slot c (slot_at t at) ≡ true → (slot_at t at).left ≡ 0
      → leftmost_from n t c at held ≡ Some (record { slot = at; link = held })
  unfolding leftmost_from
  here n m e f z = rw e (simp (f, eq-eqb _ _ z))

  on : (n m : ℕ) → n ≡ suc m → fit_slot c (slot_at t at) ≡ true → ((slot_at t at).left ≡ 0 → ⊥)
      → leftmost_from n t c at held ≡ leftmost_from m t c (slot_at t at).left (record { holder = at; side = Left })
  unfolding leftmost_from
  on n m e f z = rw e (simp (f, ne_eqb (slot_at t at).left 0 z))

module _ {t : List ℕ} {c : ℕ} {end : (Option Leftmost)} {more at : ℕ} {held : Link} (d : Descending t c end more at held) where
  pub down-spent : more ≡ 0 → LeastReached t c end None
  down-spent e = record { is = sym (spent t c at held more e) ∙ d.rest; inside = tt }

  -- slot `at` was read as s, and tested
  module _ (room : more ≡ 0 → ⊥) {s : Slot} {fit : Bool} (read : s ≡ slot_at t at) (tested : fit ≡ fit_slot c s) where
    pub down-unfit : fit ≡ false → LeastReached t c end None
    down-unfit no-fit = record { is = sym (unfit t c at held more (more - 1) (omega arith) cc) ∙ d.rest; inside = tt }

    module _ (is-fit : fit ≡ true) where
      fit-there : fit_slot c (slot_at t at) ≡ true
      fit-there = cc

      left_there : s.left ≡ (slot_at t at).left
      left_there = cc

      pub down-here : s.left ≡ 0 → LeastReached t c end (Some (record { slot = at; link = held }))
      down-here z = record {
        is = sym (here t c at held more (more - 1) (omega arith) fit-there (sym left_there ∙ z)) ∙ d.rest;
        inside = (d.first, d.last, d.holder, (fit-right c (slot_at t at) fit-there).0);
      }

      pub down-on : (s.left ≡ 0 → ⊥) → Descending t c end (more - 1) s.left (record { holder = at; side = Left })
      down-on z = record {
        rest = rw left_there (sym (on t c at held more (more - 1) (omega arith) fit-there (λ q. z (left_there ∙ q))) ∙ d.rest);
        first = omega arith;
        last = omega (arith, left_there, fit-left c (slot_at t at) fit-there);
        holder = d.last;
      }
