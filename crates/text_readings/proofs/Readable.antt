-- A line is readable exactly if it is the printed line of a command. Assumes nothing.
use Prim.Native.Nat.{ℕ, ◌+◌, ◌-◌, ◌≤◌}
use mathlib.Core.Path.{◌≡◌, refl, sym, ap, ◌∙◌}
use mathlib.Core.Bool.{Bool, true, false, ◌&&◌, cond, true≢false}
use mathlib.Core.List.{List, [], ◌∷◌, ◌++◌, map, append-nil}
use native.Mathlib.Omega.{arith}
use native.Mathlib.Nat.{zero-add}
use lib.ListN.{length, drop}
use lib.Seq.{drop-length}
use lib.Dec.{ltb, leb, eqb}
use borrow.Author.Tests.{eqb-true, leb-true}
use Rattle.std.proofs.lemmas.Option.{same_Some}
use Rattle.scope.proofs.Bools.{and_r, never}
use Rattle.text_fields.specs.Text.{starts_with}
use Rattle.text_fields.specs.Number.{largest}
use Rattle.std.specs.Prelude.{Option, Some, None}
use Rattle.text_fields.specs.Read.{numbers, word_then, fields_then, end_then}
use Rattle.text_lines.specs.Form.{Form, form_of, forms, asked, made, form_read, tried, command_of, readable}
use Rattle.text_readings.specs.Printed.{line_as, line_of, Printed, SaysCommand}
use Rattle.text_fields.specs.declared.read.Read.{Read}
use Rattle.text_lines.specs.declared.command.Op.{Op}
use Rattle.text_lines.specs.declared.command.Op.TheVariants.{Post, Amend, Drop, Find, Rank, Total, Worth, Fire, Tidy, List as Listing}
use Rattle.text_lines.specs.declared.command.Command.{Command}
use Rattle.text_readings.proofs.Told.{NumbersTold, none, more, after_numbers, all_spaced, other-stays}
use Rattle.text_readings.proofs.FieldsOnly.{starts-split, FieldsRead, fields-only}
use Rattle.text_readings.proofs.Tables.{room, form_fits, proper}
use Rattle.text_readings.proofs.RoundTrip.{read-printed}

-- a line that a form reads is a line of the form
pub record LineIs (s : List ℕ) (f : Form) (r : Read) : Type 0 where
  pub ns : List ℕ
  pub told : NumbersTold f.words ns
  pub is : Some r ≡ after_numbers 0 0 0 ns r.next
  pub text : s ≡ line_as f ns

line-only : (s : List ℕ) (f : Form) (r : Read) → form_read s f ≡ Some r → LineIs s f r
unfolding word_then FieldsRead end_then
line-only s f r e = word (starts_with f.name s) refl e
  where
    stop : {A : Type 0} → None ≡ Some r → A
    stop e = never cc

    whole : (x : Option Read) → FieldsRead s f.words 0 0 0 (0 + length f.name) x → starts_with f.name s ≡ true
        → end_then s x ≡ Some r → LineIs s f r
    whole None i t e = stop e
    whole (Some x) i t e = ends (eqb x.next (length s)) refl e
      where
        ends : (u : Bool) → eqb x.next (length s) ≡ u → cond u (Some x) None ≡ Some r → LineIs s f r
        ends false l e = stop e
        ends true l e =
            let o : x ≡ r = cc in
            let d : drop x.next s ≡ [] = ap (λ (k : ℕ). drop k s) (eqb-true x.next (length s) l) ∙ drop-length s in
            record {
              ns = i.ns;
              told = i.told;
              is = rw (sym o) i.is;
              text =
                  starts-split f.name s t
                  ∙ ap (λ (u : List ℕ). f.name ++ u)
                  (ap (λ (k : ℕ). drop k s) (sym (zero-add (length f.name))) ∙ i.text ∙ rw (d, append-nil));
            }

    word : (t : Bool) → starts_with f.name s ≡ t
        → end_then s (fields_then s f.words (cond t (numbers 0 0 0 (0 + length f.name)) None)) ≡ Some r → LineIs s f r
    word false t e = stop (sym (ap (end_then s) (other-stays s f.words)) ∙ e)
    word true t e = whole (fields_then s f.words (numbers 0 0 0 (0 + length f.name)))
        (fields-only s f.words 0 0 0 (0 + length f.name)) t e

-- the numbers that were read are the last of three
numbers-same : {a b c q a' b' c' q' : ℕ} → numbers a b c q ≡ numbers a' b' c' q' → (a ≡ a') × (b ≡ b') × (c ≡ c')
numbers-same e =
    let z = same_Some _ _ e in (ap (λ (r : Read). r.a) z, ap (λ (r : Read). r.b) z, ap (λ (r : Read). r.c) z)

last-told : {ws : List (List ℕ)} {ns : List ℕ} (a b c q : ℕ) → length ws ≤ 3 → NumbersTold ws ns → numbers a b c q ≡ after_numbers 0 0 0 ns q
    → (ns ≡ drop (3 - length ws) (a ∷ b ∷ c ∷ [])) × (a ≤ largest) × (b ≤ largest) × (c ≤ largest)
unfolding after_numbers
last-told a b c q l none e =
    let x = numbers-same e in
    (refl, omega arith, omega arith, omega arith)
last-told a b c q l (more h none) e =
    let x = numbers-same e in
    (rw x.2, omega arith, omega arith, omega arith)
last-told a b c q l (more h (more k none)) e =
    let x = numbers-same e in
    (rw (x.1, x.2), omega arith, omega arith, omega arith)
last-told a b c q l (more h (more k (more j none))) e =
    let x = numbers-same e in
    (rw (x.0, x.1, x.2), omega arith, omega arith, omega arith)
last-told a b c q l (more h (more k (more j (more i t)))) e = absurd (omega arith)

-- a form that reads the line
form-says : (o : Op) (s : List ℕ) (r : Read) → form_read s (form_of o) ≡ Some r
    → SaysCommand s (Some (asked (form_of o).op r.a r.b r.c))
unfolding form_fits line_of
form-says o s r e =
    let f = form_of o in
    let i = line-only s f r e in
    let few = and_r (all_spaced f.words) (leb (length f.words) 3)
    (and_r (leb (length f.name + room f.words) 80) (all_spaced f.words && leb (length f.words) 3) (proper o).fit) in
    let l = last-told r.a r.b r.c r.next (leb-true _ _ few) i.told i.is in
    record {
      line = record { op = o; a = r.a; b = r.b; c = r.c; small = (l.1, l.2, l.3); is = i.text ∙ ap (line_as f) l.0 };
      asks = ap (λ (x : Op). Some (asked x r.a r.b r.c)) (proper o).op;
    }

-- forms tried one after the other
tried-says : (os : List Op) (s : List ℕ) → (readable (tried (map form_of os) s None) ≡ true) → SaysCommand s
    (tried (map form_of os) s None)
unfolding tried readable
tried-says [] s e = absurd (true≢false (sym e))
tried-says (o ∷ os) s e = go (form_read s (form_of o)) refl (tried-says os s) e
  where
    rest : Option Command
    rest = tried (map form_of os) s None

    go : (r : Option Read) → form_read s (form_of o) ≡ r → (readable rest ≡ true → SaysCommand s rest)
        → readable (made (form_of o).op r rest) ≡ true → SaysCommand s (made (form_of o).op r rest)
    go None q ih e = ih e
    go (Some r) q ih e = form-says o s r q

-- a readable line is the line of the command that it asks for
pub readable-says : (s : List ℕ) → readable (command_of s) ≡ true → SaysCommand s (command_of s)
unfolding command_of readable
readable-says s = go (ltb 80 (length s))
  where
    all : Option Command
    all = tried forms s None

    go : (t : Bool) → readable (cond t None all) ≡ true → SaysCommand s (cond t None all)
    go true e = absurd (true≢false (sym e))
    go false e = tried-says (Post ∷ Amend ∷ Fire ∷ Drop ∷ Find ∷ Rank ∷ Total ∷ Tidy ∷ Worth ∷ Listing ∷ []) s e

-- and the line of a command is readable
pub printed-readable : (s : List ℕ) → Printed s → readable (command_of s) ≡ true
printed-readable s p =
    rw (p.is, read-printed p.op p.a p.b p.c p.small.0 p.small.1 p.small.2)
    ((proper p.op).read p.a p.b p.c)
