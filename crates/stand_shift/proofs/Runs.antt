-- A run line by line. Assumes nothing.
use Prim.Native.Nat.{ℕ, zero, suc, ◌+◌, ◌-◌, ◌≤◌, ◌<◌}
use mathlib.Core.Path.{◌≡◌, refl, sym, ap, ◌∙◌}
use mathlib.Core.Bool.{true, false}
use mathlib.Core.List.{List, [], ◌∷◌, ◌++◌, append_assoc}
use native.Mathlib.Omega.{arith}
use native.Mathlib.Decide.{dec_le}
use lib.Dec.{eqb}
use lib.ListN.{length, take, drop, length-drop}
use lib.Seq.{drop-drop}
use borrow.Author.Tests.{eq-eqb, ne_eqb}
use Rattle.scope.proofs.Bools.{by_bool}
use Rattle.text_fields.specs.Text.{first_line, LineEnds}
use Rattle.stand_desk.specs.Step.{step_table, step_text}
use Rattle.stand_shift.specs.Run.{Run, idle, after_text, lines_run, whole_run}

-- two texts before a run are one
pub after_both : (a b : List ℕ) (r : Run) → after_text a (after_text b r) ≡ after_text (a ++ b) r
after_both a b r = ap (λ (w : List ℕ). record { text = w; table = r.table }) (sym (append_assoc a b r.text))

-- no bytes, no line
pub no_lines : (more : ℕ) (t s : List ℕ) → length s ≤ 0 → lines_run more t s ≡ idle t
unfolding lines_run
no_lines zero t s h = refl
no_lines (suc more) t s h = rw (eq-eqb (length s) 0 (omega arith))

-- the first line, and those after it
abbrev rest : List ℕ → List ℕ
rest s = drop (length (first_line s) + 1) s

a-line : (more : ℕ) (t s : List ℕ) → 0 < length s
    → lines_run (suc more) t s ≡ after_text (step_text t (first_line s)) (lines_run more (step_table t (first_line s)) (rest s))
unfolding lines_run
a-line more t s h = rw (ne_eqb (length s) 0 (λ (e : length s ≡ 0). omega (arith, e)))

-- AS MANY LINES AS BYTES ARE ENOUGH: MORE CHANGE NOTHING
pub enough : (m n : ℕ) (t s : List ℕ) → length s ≤ m → length s ≤ n → lines_run m t s ≡ lines_run n t s
enough zero n t s p q = no_lines zero t s p ∙ sym (no_lines n t s p)
enough (suc m) zero t s p q = no_lines (suc m) t s q ∙ sym (no_lines zero t s q)
enough (suc m) (suc n) t s p q =
    elim (dec_le (length s) 0) [
      | yes h ↦ no_lines (suc m) t s h ∙ sym (no_lines (suc n) t s h)
      | no h ↦
          let l = first_line s in
          let d = length-drop (length l + 1) s in
          let e = enough m n (step_table t l) (rest s) (omega (arith, h, d)) (omega (arith, h, d)) in
          a-line m t s (omega (arith, h)) ∙ ap (after_text (step_text t l)) e ∙ sym (a-line n t s (omega (arith, h)))
    ]

-- a line as a part of the input
abbrev pub line_at : List ℕ → ℕ → ℕ → List ℕ
line_at s from end = take (end - from) (drop from s)

line-front : (s : List ℕ) → take (length (first_line s)) s ≡ first_line s
unfolding first_line
line-front [] = refl
line-front (c ∷ s) =
    by_bool (eqb c 10) (λ (e : eqb c 10 ≡ true). rw e refl)
    (λ (e : eqb c 10 ≡ false). rw e (ap (λ (l : List ℕ). c ∷ l) (line-front s)))

line-part : (s : List ℕ) (from end : ℕ) → LineEnds s from end → line_at s from end ≡ first_line (drop from s)
line-part s from end e =
    let o : end - from ≡ length (first_line (drop from s)) = omega (arith, e.is) in
    rw o (line-front (drop from s))

-- THE LINE AT A PLACE IS ANSWERED FIRST, AND THEN THOSE AFTER ITS END
pub next-line : (t s : List ℕ) (from end : ℕ) → from < length s → LineEnds s from end
    → whole_run t (drop from s)
    ≡ after_text (step_text t (line_at s from end)) (whole_run (step_table t (line_at s from end)) (drop (end + 1) s))
next-line t s from end h e =
    let r = drop from s in
    let l = first_line r in
    let o : end + 1 ≡ from + (length l + 1) = omega (arith, e.is) in
    let d = length-drop (length l + 1) r in
    let more = enough (length r) (length (rest r)) (step_table t l) (rest r) (omega (arith, d)) (omega arith) in
    rw (line-part s from end e, o, sym (drop-drop (length l + 1) from s))
    (enough (length r) (suc (length r)) t r (omega arith) (omega arith)
    ∙ a-line (length r) t r (omega (arith, length-drop from s))
    ∙ ap (after_text (step_text t l)) more)
