-- The loop of `fill`: what it has answered so far. Assumes nothing.
use Prim.Native.Nat.{ℕ, ◌+◌, ◌≤◌, ◌<◌}
use mathlib.Core.Path.{◌≡◌, refl, sym, ap, ◌∙◌}
use mathlib.Core.List.{List, ◌++◌}
use native.Mathlib.Omega.{arith}
use native.Mathlib.Decide.{dec_le}
use lib.ListN.{length, take, drop, length-append}
use lib.Seq.{take_at, length-take-le}
use Rattle.text_fields.specs.Text.{LineEnds}
use Rattle.text_print.specs.Put.{Put, PutIn}
use Rattle.text_print.proofs.Kept.{laid-is}
use Rattle.stand_desk.specs.Step.{step_table, step_text}
use Rattle.stand_shift.specs.Run.{after_text, whole_run, AnsweredSo}
use Rattle.stand_shift.proofs.Runs.{after_both, line_at, next-line}

-- the lines before `next` are answered, and nothing is put unless a line is
pub record FillGoing (t s : List ℕ) (from : ℕ) (u out : List ℕ) (next at : ℕ) : Type 0 where
  pub so_far : AnsweredSo t s from u out next at
  pub ahead : from ≤ next
  pub first : next ≤ from → at ≡ 0

pub setting-out : (t s out : List ℕ) (from : ℕ) → FillGoing t s from t out from 0
setting-out t s out from =
    record { so_far = record { is = refl; within = omega arith }; ahead = omega arith; first = λ h. refl }

-- a text that fits stands behind what was there
pub put_front : {old text new : List ℕ} {at next : ℕ} → Put old at text new next → next ≤ length old
    → take next new ≡ take at old ++ text
put_front {old} {text} {new} {at} {next} x h =
    let t = length-take-le at old (omega (arith, x.place)) in
    let l : length (take at old ++ text) ≡ next = omega (arith, x.place, length-append (take at old) text, t) in
    ap (take next) (x.holds ∙ laid-is old at text (omega (arith, x.place))) ∙ take_at (take at old ++ text) _ next l

-- ONE LINE MORE: WHAT IT PRINTS STANDS BEHIND THE REST, AND THE NEXT LINE BEGINS AFTER ITS NEWLINE
pub one-filled : {t s u out v new : List ℕ} {from next at end n room : ℕ} → FillGoing t s from u out next at → next < length s
    → LineEnds s next end → PutIn out at (step_text u (line_at s next end)) new n room
    → v ≡ step_table u (line_at s next end) → at + room ≤ length out → length new ≡ length out
    → FillGoing t s from v new (end + 1) n
one-filled {t} {s} {u} {out} {v} {new} {from} {next} {at} {end} {n} {room} g h e x q r k =
    let w = step_text u (line_at s next end) in
    let y = whole_run v (drop (end + 1) s) in
    let p : whole_run u (drop next s) ≡ after_text w y = rw q (next-line u s next end h e) in
    let f : take n new ≡ take at out ++ w = put_front x.put (omega (arith, x.within)) in
    record {
      so_far =
          record {
            is =
                g.so_far.is
                ∙ ap (after_text (take at out)) p
                ∙ after_both (take at out) w y
                ∙ ap (λ (a : List ℕ). after_text a y) (sym f);
            within = omega (arith, x.within);
          };
      ahead = omega (arith, g.ahead, e.is);
      first = λ z. absurd (omega (arith, z, g.ahead, e.is));
    }

-- it stops for want of room only behind a line
pub moved : {t s u out : List ℕ} {from next at last : ℕ} → FillGoing t s from u out next at → last < at → from < next
moved {from = from} {next = next} g h =
    elim (dec_le next from) [ yes z ↦ absurd (omega (arith, h, g.first z)) | no z ↦ omega (arith, z) ]
