-- The loop of `answer_all`: what was handed on to be written, and what is still to be. Assumes nothing.
use Prim.Native.Nat.{ℕ, ◌+◌, ◌≤◌, ◌<◌}
use mathlib.Core.Path.{◌≡◌, refl, sym, ap, ◌∙◌}
use mathlib.Core.List.{List, [], ◌++◌, append-nil}
use native.Mathlib.Omega.{arith}
use lib.ListN.{length, take, drop, length-append, length-drop}
use lib.Seq.{take_at, take_all, drop_at, length-take-le}
use borrow.Author.Tests.{lt-ltb, le-ltb}
use Rattle.stand_desk.specs.Desk.{new_desk}
use Rattle.stand_shift.specs.Run.{most_input, Run, idle, after_text, whole_run, refused_text, run_text, AnsweredSo}
use Rattle.stand_shift.proofs.Runs.{after_both, no_lines}

-- `said` was handed on, so many bytes; the run of the lines from the place `from` on, on the words t, is left
pub record ToldSoFar (s t : List ℕ) (from sent : ℕ) : Type 0 where
  pub said : List ℕ
  pub count : length said ≡ sent
  pub whole : whole_run (new_desk) s ≡ after_text said (whole_run t (drop from s))

-- at first nothing
pub told_none : (s t : List ℕ) → t ≡ new_desk → ToldSoFar s t 0 0
told_none s t e = record { said = []; count = refl; whole = rw e refl }

-- then the filled part of the buffer is handed on
pub told_more : {s t u out : List ℕ} {from sent next at : ℕ} → ToldSoFar s t from sent → AnsweredSo t s from u out next at
    → ToldSoFar s u next (sent + at)
told_more {out = out} {at = at} w a = record {
  said = w.said ++ take at out;
  count = omega (arith, w.count, length-append w.said (take at out), length-take-le at out a.within);
  whole = w.whole ∙ ap (after_text w.said) a.is ∙ after_both w.said (take at out) _;
}

run-text : (s : List ℕ) → length s ≤ most_input → run_text s ≡ (whole_run (new_desk) s).text
unfolding run_text
run-text s h = rw (le-ltb most_input (length s) h)

-- IT IS THE NEXT PIECE OF WHAT THE RUN PRINTS
pub told-piece : {s t u out : List ℕ} {from sent next at : ℕ} → ToldSoFar s t from sent → AnsweredSo t s from u out next at
    → length s ≤ most_input → take at out ≡ take at (drop sent (run_text s))
told-piece {s} {t} {u} {out} {from} {sent} {next} {at} w a h =
    let rest = (whole_run u (drop next s)).text in
    let e : run_text s ≡ w.said ++ (take at out ++ rest) =
    run-text s h ∙ ap (λ (r : Run). r.text) (w.whole ∙ ap (after_text w.said) a.is) in
    let d : drop sent (run_text s) ≡ take at out ++ rest = ap (drop sent) e ∙ drop_at w.said _ sent w.count in
    sym (ap (take at) d ∙ take_at (take at out) rest at (length-take-le at out a.within))

-- AND AT THE END OF THE INPUT ALL OF IT WAS HANDED ON, AND THE TABLE IS THAT AFTER THE RUN
pub told-all : {s t : List ℕ} {from sent : ℕ} (w : ToldSoFar s t from sent) → length s ≤ most_input → length s ≤ from
    → (sent ≡ length (run_text s)) × (t ≡ (whole_run (new_desk) s).table)
told-all {s} {t} {from} w h l =
    let rest = drop from s in
    let e : whole_run (new_desk) s ≡ after_text w.said (idle t) =
    w.whole ∙ ap (after_text w.said) (no_lines (length rest) t rest (omega (arith, length-drop from s))) in
    let x : run_text s ≡ w.said = run-text s h ∙ ap (λ (r : Run). r.text) e ∙ append-nil w.said in
    (sym (ap length x ∙ w.count), sym (ap (λ (r : Run). r.table) e))

-- an input that is too long is refused, however it goes on
pub too_long : (s : List ℕ) → most_input < length s → run_text s ≡ refused_text
unfolding run_text
too_long s h = rw (lt-ltb most_input (length s) h)

-- THE REFUSAL IS ALL THAT IS PRINTED THEN
pub told-refused : (s out : List ℕ) (n : ℕ) → most_input < length s → take n out ≡ refused_text → n ≤ length out
    → (take n out ≡ take n (drop 0 (run_text s))) × (n ≡ length (run_text s))
told-refused s out n h e le =
    let l : length refused_text ≡ n = ap length (sym e) ∙ length-take-le n out le in
    let x = too_long s h in
    (e ∙ sym (ap (take n) x ∙ take_all n refused_text (omega arith)), sym (ap length x ∙ l))
