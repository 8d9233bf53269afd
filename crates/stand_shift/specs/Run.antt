-- A whole run of `stand`, and a part of it (document 01, "The program").
use Rattle.std.specs.Prelude.{ℕ, zero, suc, ◌+◌, ◌≤◌, ◌≡◌, cond, List, [], ◌++◌, length, take, drop, ltb, eqb}
use Rattle.scope.specs.Answers.{refusal}
use Rattle.scope.specs.declared.answer.Refusal.TheVariants as refusals
use Rattle.text_fields.specs.Text.{first_line}
use Rattle.text_print.specs.Line.{answer_line}
use Rattle.stand_desk.specs.Desk.{new_desk}
use Rattle.stand_desk.specs.Step.{step_table, step_text}

-- what some lines print, and the table after them
pub record Run : Type 0 where
  pub text : List ℕ
  pub table : List ℕ

-- no line at all, and a text printed before a run
abbrev pub idle : List ℕ → Run
idle t = record { text = []; table = t }

abbrev pub after_text : List ℕ → Run → Run
after_text said r = record { text = said ++ r.text; table = r.table }

-- the lines of s one after the other on the words t, at most `more` of them
unfoldable pub lines_run : ℕ → List ℕ → List ℕ → Run
lines_run zero t s = idle t
lines_run (suc more) t s =
    cond (eqb (length s) 0) (idle t)
    (after_text (step_text t (first_line s)) (lines_run more (step_table t (first_line s)) (drop (length (first_line s) + 1) s)))

-- all of them: there are no more lines than bytes
abbrev pub whole_run : List ℕ → List ℕ → Run
whole_run t s = lines_run (length s) t s

-- an unreadable line
abbrev pub refused_text : List ℕ
refused_text = answer_line (refusal refusals.Unreadable)

-- the most bytes of an input
abbrev pub most_input : ℕ
most_input = 65536

-- all that `stand` prints: it starts with a new desk, and an input that is too long is one unreadable line
unfoldable pub run_text : List ℕ → List ℕ
run_text s = cond (ltb most_input (length s)) refused_text (whole_run (new_desk) s).text

-- the lines of s from the place `from` on are answered up to the place `next`: their run is the first `at` bytes of the
-- buffer, and then the run of the lines from `next` on, on the words u
pub record AnsweredSo (t s : List ℕ) (from : ℕ) (u buffer : List ℕ) (next at : ℕ) : Type 0 where
  pub is : whole_run t (drop from s) ≡ after_text (take at buffer) (whole_run u (drop next s))
  pub within : at ≤ length buffer
