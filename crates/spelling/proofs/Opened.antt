-- The gate of the calls that want a sound table, over the gate that tests the header. Assumes nothing.
use Prim.Native.Nat.{ℕ}
use mathlib.Core.Path.{◌≡◌, refl, sym, ◌∙◌}
use mathlib.Core.Bool.{Bool, true, false, cond}
use mathlib.Core.List.{List}
use native.Mathlib.Omega.{arith}
use lib.ListN.{length}
use Rattle.scope.proofs.Bools.{by_bool, never}
use Rattle.scope.specs.Table.{slots_in}
use Rattle.scope.specs.Fit.{header_ok}
use Rattle.scope.specs.Answers.{gate, on_slots, admit}
use Rattle.scope.specs.Sound.{sound_table}
use Rattle.scope.specs.Sums.{sound_gate}
use Rattle.scope.specs.declared.answer.Refusal.{Refusal}
use Rattle.scope.specs.declared.answer.Refusal.TheVariants.{Damaged}
use Rattle.spelling.specs.Ready.{Headed}
use Rattle.spelling.proofs.Laws.{gate-passed}
use Rattle.spelling.specs.Whole.{Whole}
use Rattle.spelling.proofs.Exact.{sound-says}
use Rattle.spelling.proofs.Once.{by-header}
use Rattle.std.specs.Prelude.{Option, Some, None, Result, Ok, Err}
use Rattle.scope.specs.declared.slots.Slots.{Slots}

-- the gate g that the code has found open
pub opened : (t : List ℕ) (good : Bool) (c : ℕ) {g : (Result ℕ Refusal)} → g ≡ sound_gate t good → g ≡ Ok c → Whole t c
opened t good c e o =
    let p = gate-passed t good (λ n. sound_table t n) c (sym e ∙ o) in
    record { sized = p.sized; sound = sound-says t c p.whole_is }

-- and the arguments were in range
pub was-asked : (t : List ℕ) (good : Bool) (c : ℕ) {g : (Result ℕ Refusal)} → g ≡ sound_gate t good → g ≡ Ok c → good ≡ true
was-asked t good c e o = (gate-passed t good (λ n. sound_table t n) c (sym e ∙ o)).good_is

-- where the header's gate is shut so is this one, and where it is open soundness decides
module _ (t : List ℕ) where
  shut_at : (good : Bool) (why : Refusal) (s : Option Slots) → on_slots s (λ n. admit good (header_ok n t) n) ≡ Err why
      → on_slots s (λ n. admit good (sound_table t n) n) ≡ Err why
  shut_at good why None e = e
  shut_at false why (Some s) e = e
  shut_at true why (Some s) e =
      by_bool (header_ok s.count t)
      (λ h. let q = simp h at e in never cc)
      (λ h. let q = simp h at e in simp (by-header t s.count h) q)

  pub shut-too : {g : (Result ℕ Refusal)} (good : Bool) (why : Refusal) → g ≡ gate t good (λ n. header_ok n t) → g ≡ Err why
      → Err why ≡ sound_gate t good
  unfolding gate
  shut-too good why e o = sym (shut_at good why (slots_in (length t)) (sym e ∙ o))

  open_at : (good : Bool) (c : ℕ) (s : Option Slots) → on_slots s (λ n. admit good (header_ok n t) n) ≡ Ok c
      → on_slots s (λ n. admit good (sound_table t n) n) ≡ cond (sound_table t c) (Ok c) (Err Damaged)
  open_at good c None e = never cc
  open_at false c (Some s) e = never cc
  open_at true c (Some s) e =
      by_bool (header_ok s.count t)
      (λ h. let q = simp h at e in let i : s.count ≡ c = cc in rw i refl)
      (λ h. let q = simp h at e in never cc)

  pub open-too : {g : (Result ℕ Refusal)} (good : Bool) (c : ℕ) → g ≡ gate t good (λ n. header_ok n t) → g ≡ Ok c
      → cond (sound_table t c) (Ok c) (Err Damaged) ≡ sound_gate t good
  unfolding gate
  open-too good c e o = sym (open_at good c (slots_in (length t)) (sym e ∙ o))

-- a sound table has its header
pub headed : {t : List ℕ} {c : ℕ} → Whole t c → Headed t
headed w = omega (arith, w.sized)
