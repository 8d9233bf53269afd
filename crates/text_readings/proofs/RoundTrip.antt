-- The printed line of a command is read back, and a line is readable exactly if it is one. Assumes nothing.
use Prim.Native.Nat.{ℕ, ◌+◌, ◌-◌, ◌≤◌}
use mathlib.Core.Path.{◌≡◌, refl, sym, ap, ◌∙◌}
use mathlib.Core.Bool.{Bool, true, false, ◌&&◌, ◌||◌, cond, not}
use mathlib.Core.Option.{some}
use mathlib.Core.List.{List, [], ◌∷◌, ◌++◌, append-nil}
use native.Mathlib.Omega.{arith}
use native.Mathlib.Nat.{zero-add}
use lib.ListN.{length, drop, length-append}
use lib.Seq.{drop-append_seam}
use lib.Dec.{leb, eqb}
use borrow.Author.Tests.{eq-eqb, le-ltb, leb-true}
use Rattle.scope.proofs.Bools.{and_l, and_r, never}
use Rattle.text_fields.specs.Text.{starts_with}
use Rattle.text_fields.specs.Decimal.{decimal, field, fields}
use Rattle.text_fields.specs.Number.{largest, digits_of}
use Rattle.text_fields.specs.Read.{numbers, begin, word_then, fields_then, end_then}
use Rattle.text_lines.specs.Form.{Form, form_of, forms, asked, made, form_read, tried, command_of}
use Rattle.text_readings.specs.Printed.{line_as, line_of}
use Rattle.text_fields.specs.declared.read.Read.{Read}
use Rattle.text_lines.specs.declared.command.Op.{Op}
use Rattle.text_lines.specs.declared.command.Command.{Command}
use Rattle.std.specs.Prelude.{Option, Some, None}
use Rattle.text_fields.proofs.Decimal.{decimal-short}
use Rattle.text_readings.proofs.Told.{NumbersTold, none as told_none, more, after_numbers, all_spaced, other-stays}
use Rattle.text_readings.proofs.FieldsBack.{word_back, fields_back}
use Rattle.text_readings.proofs.Tables.{differ, first_of, room, form_fits, proper}

-- the last of three numbers, as many as there are words
told-last : (ws : List (List ℕ)) (a b c : ℕ) → length ws ≤ 3 → a ≤ largest → b ≤ largest → c ≤ largest
    → NumbersTold ws (drop (3 - length ws) (a ∷ b ∷ c ∷ []))
told-last [] a b c l ha hb hc = told_none
told-last (w ∷ []) a b c l ha hb hc = more hc told_none
told-last (w ∷ v ∷ []) a b c l ha hb hc = more hb (more hc told_none)
told-last (w ∷ v ∷ u ∷ []) a b c l ha hb hc = more ha (more hb (more hc told_none))
told-last (w ∷ v ∷ u ∷ x ∷ ws) a b c l ha hb hc = absurd (omega arith)

-- a line of a form is no longer than its room
fields-short : {ws : List (List ℕ)} {ns : List ℕ} → NumbersTold ws ns → length (fields ws ns) ≤ room ws
unfolding fields room
fields-short told_none = omega arith
fields-short (more {w} {ws} {n} {ns} h t) =
    omega (arith, length-append (field w n) (fields ws ns), length-append w (decimal n), decimal-short n h, fields-short t)

-- a line of a form is read by it
no-digits : digits_of [] ≡ []
unfolding digits_of
no-digits = refl

after-end : (s : List ℕ) (a b c : ℕ) (ns : List ℕ) → end_then s (after_numbers a b c ns (length s)) ≡ after_numbers a b c ns (length s)
unfolding after_numbers end_then
after-end s a b c [] = rw (eq-eqb (length s) (length s) refl)
after-end s a b c (n ∷ ns) = after-end s b c n ns

line-rest : (f : Form) (ns : List ℕ) → drop (length f.name) (line_as f ns) ≡ fields f.words ns ++ []
line-rest f ns = drop-append_seam f.name (fields f.words ns) ∙ sym (append-nil (fields f.words ns))

line-back : (f : Form) {ns : List ℕ} → all_spaced f.words ≡ true → NumbersTold f.words ns
    → form_read (line_as f ns) f ≡ after_numbers 0 0 0 ns (length (line_as f ns))
line-back f {ns} p t =
    let s = line_as f ns in
    let w : word_then s f.name begin ≡ numbers 0 0 0 (length f.name) = word_back s 0 f.name
    (fields f.words ns) 0 0 0 refl ∙ rw zero-add in
    let r = fields_back s (length f.name) [] 0 0 0 p t (line-rest f ns) no-digits in
    ap (λ (x : Option Read). end_then s (fields_then s f.words x)) w
    ∙ ap (end_then s) (r ∙ ap (after_numbers 0 0 0 ns) (sym (length-append f.name (fields f.words ns))))
    ∙ after-end s 0 0 0 ns

-- a line that begins otherwise is not of the form
starts_apart : (w u x : List ℕ) → differ w u ≡ true → starts_with w (u ++ x) ≡ false
unfolding differ starts_with
starts_apart [] u x e = sym e
starts_apart (c ∷ w) [] x e = never cc
starts_apart (c ∷ w) (d ∷ u) x e = go (eqb d c) e (starts_apart w u x)
  where
    go : (b : Bool) → (not b || differ w u) ≡ true → (differ w u ≡ true → starts_with w (u ++ x) ≡ false) →
        (b && starts_with w (u ++ x)) ≡ false
    go true q ih = ih q
    go false q ih = refl

form-apart : (f : Form) (n x : List ℕ) → differ f.name n ≡ true → form_read (n ++ x) f ≡ None
unfolding word_then end_then
form-apart f n x e =
    rw (starts_apart f.name n x e) (ap (end_then (n ++ x)) (other-stays (n ++ x) f.words))

-- what was read makes its command, whatever else there is
after-made : (o : Op) (a b c : ℕ) (ns : List ℕ) (q : ℕ) (x y : Option Command) → made o (after_numbers a b c ns q) x ≡ made o
    (after_numbers a b c ns q) y
unfolding after_numbers
after-made o a b c [] q x y = refl
after-made o a b c (n ∷ ns) q x y = after-made o b c n ns q x y

-- of the forms, the first whose name it can have reads it
first-tried : (fs : List Form) (n x : List ℕ) (g : Form) (ns : List ℕ) (q : ℕ) → first_of n fs ≡ some g
    → form_read (n ++ x) g ≡ after_numbers 0 0 0 ns q → tried fs (n ++ x) None ≡ made g.op (after_numbers 0 0 0 ns q) None
unfolding first_of tried
first-tried [] n x g ns q e r = never cc
first-tried (f ∷ fs) n x g ns q e r = go (differ f.name n) refl e (first-tried fs n x g ns q)
  where
    go : (t : Bool) → differ f.name n ≡ t → cond t (first_of n fs) (some f) ≡ some g
        → (first_of n fs ≡ some g → form_read (n ++ x) g ≡ after_numbers 0 0 0 ns q → tried fs (n ++ x) None ≡ made
        g.op (after_numbers 0 0 0 ns q) None)
        → made f.op (form_read (n ++ x) f) (tried fs (n ++ x) None) ≡ made g.op (after_numbers 0 0 0 ns q) None
    go true t e ih = rw (form-apart f n x t) (ih e r)
    go false t e ih = let z : f ≡ g = cc in rw (z, r) (after-made g.op 0 0 0 ns q (tried fs (n ++ x) None) None)

-- the printed line of a command is read back
pub read-printed : (o : Op) (a b c : ℕ) → a ≤ largest → b ≤ largest → c ≤ largest → command_of (line_of o a b c) ≡ Some (asked o a b c)
unfolding command_of line_of form_fits
read-printed o a b c ha hb hc =
    let f = form_of o in
    let ns = drop (3 - length f.words) (a ∷ b ∷ c ∷ []) in
    let p = proper o in
    let most = leb (length f.name + room f.words) 80 in
    let few = leb (length f.words) 3 in
    let rest = and_r most (all_spaced f.words && few) p.fit in
    let t = told-last f.words a b c (leb-true _ _ (and_r (all_spaced f.words) few rest)) ha hb hc in
    let l : length (line_as f ns) ≤ 80 =
    omega (
      arith,
      length-append f.name (fields f.words ns),
      fields-short t,
      leb-true
          (length f.name + room f.words) 80 (and_l most (all_spaced f.words && few) p.fit),
    ) in
    rw (le-ltb 80 (length (line_as f ns)) l)
    (first-tried forms f.name (fields f.words ns) f ns (length (line_as f ns)) p.first
    (line-back f (and_l (all_spaced f.words) few rest) t)
    ∙ ap (λ (x : Op). made x (after_numbers 0 0 0 ns (length (line_as f ns))) None) p.op
    ∙ p.asks a b c (length (line_as f ns)))
