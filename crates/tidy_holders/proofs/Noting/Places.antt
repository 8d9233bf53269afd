-- Edits of a table, link by link: what hangs at each link afterwards, and what is noted then. Assumes nothing.
use Prim.Native.Nat.{ℕ, ◌+◌, ◌*◌, ◌≤◌}
use mathlib.Core.Path.{◌≡◌, refl, sym, ◌∙◌, ap}
use mathlib.Core.Bool.{cond}
use mathlib.Core.List.{List, [], ◌∷◌}
use native.Mathlib.Omega.{arith}
use native.Mathlib.Decide.{ℕ_discrete}
use lib.ListN.{length, get_or, set, length-set}
use lib.Seq.{get_or-set_same, get_or-set_other}
use lib.Dec.{eqb}
use borrow.Author.Tests.{eq-eqb, ne_eqb}
use Rattle.scope.specs.Table.{head_words, slot_words, base, link_place, link_at, register_place, written}
use Rattle.scope.specs.declared.side.Side.{Side}
use Rattle.scope.specs.declared.side.Side.TheVariants.{Left, Right}
use Rattle.scope.specs.declared.side.Link.{Link}
use Rattle.spelling.specs.Ready.{Sized}
use Rattle.spelling.proofs.Laws.{link-lt}
use Rattle.scope.specs.Edits.{Part, son_on, register_on, Edit, place_of, writes}
use Rattle.bridge.proofs.Firing.Calls.{LinkIn}
use Rattle.bridge.specs.Leads.{side_number}
use Rattle.tidy_holders.specs.Codes.{link_for, link_number, link_numbered, held_at}
use Rattle.tidy_holders.specs.Holds.{CodeIn, noted_part, noted}
use Rattle.tidy_holders.proofs.Noting.Links.{side-most, link-code, code-link-in, held_link}

-- where a link stands, said without a difference
place : (k : ℕ) (s : Side) → 1 ≤ k
    → link_at (link_for k s) + slot_words ≡ slot_words * k + (head_words + link_place Left + side_number s)
unfolding link_at
place k Left i = rw (ne_eqb k 0 (λ e. omega arith)) (omega arith)
place k Right i = rw (ne_eqb k 0 (λ e. omega arith)) (omega arith)

root-place : (s : Side) → link_at (link_for 0 s) ≡ 0
unfolding link_at
root-place s = refl

-- two links that stand at one place have one number
one_place : {c : ℕ} (l m : Link) → LinkIn c l → LinkIn c m → link_at l ≡ link_at m → link_number l ≡ link_number m
unfolding link_number
one_place l m i j e =
    elim (ℕ_discrete l.holder 0) [
      | yes p ↦ elim (ℕ_discrete m.holder 0) [
        | yes q ↦ ap link_number (i.root p ∙ sym (j.root q))
        | no q ↦
            absurd (omega (arith, place m.holder m.side (omega arith), ap link_at (i.root p), root-place Left))
      ]
      | no p ↦ elim (ℕ_discrete m.holder 0) [
        | yes q ↦
            absurd (omega (arith, place l.holder l.side (omega arith), ap link_at (j.root q), root-place Left))
        | no q ↦ omega (
          arith,
          place l.holder l.side (omega arith),
          place m.holder m.side (omega arith),
          side-most l.side,
          side-most m.side,
        )
      ]
    ]

register-place : (s : Side) → (5 ≤ register_place s) × (register_place s ≤ 6)
register-place Left = omega arith
register-place Right = omega arith

-- no register stands there
no_register : {c : ℕ} (l : Link) → LinkIn c l → (k : ℕ) (s : Side) → 1 ≤ k → link_at l ≡ base k + register_place s → ⊥
no_register l i k s o e =
    elim (ℕ_discrete l.holder 0) [
      | yes p ↦ omega (arith, ap link_at (i.root p), root-place Left)
      | no p ↦ omega (arith, place l.holder l.side (omega arith), side-most l.side, register-place s)
    ]

-- a part of slot k may be written: a link of the table, or a register of a slot
abbrev pub ProperPart : ℕ → Part → ℕ → Type 0
ProperPart c (son_on s) k = LinkIn c (link_for k s)
ProperPart c (register_on s) k = (1 ≤ k) × (k ≤ c)

abbrev pub AllProper : ℕ → List Edit → Type 0
AllProper c [] = Unit {0}
AllProper c (e ∷ es) = ProperPart c e.part e.slot × AllProper c es

-- what hangs at the link of number q after an edit, and after several
unfoldable pub held_part : Part → ℕ → ℕ → ℕ → ℕ → ℕ
held_part (son_on s) k x q y = cond (eqb q (link_number (link_for k s))) x y
held_part (register_on s) k x q y = y

unfoldable pub held_by : List Edit → ℕ → ℕ → ℕ
held_by [] q y = y
held_by (e ∷ es) q y = held_by es q (held_part e.part e.slot e.what q y)

module _ {t : List ℕ} {c : ℕ} (z : Sized t c) (q : ℕ) (i : CodeIn c q) where
  put-link : (k : ℕ) (s : Side) (x : ℕ) → LinkIn c (link_for k s)
      → held_at (set t (link_at (link_for k s)) x) q ≡ cond (eqb q (link_number (link_for k s))) x (held_at t q)
  unfolding held_at
  put-link k s x j =
      elim (ℕ_discrete q (link_number (link_for k s))) [
        | yes e ↦ rw (eq-eqb q (link_number (link_for k s)) e)
            (ap (λ (p : ℕ). held_at (set t (link_at (link_for k s)) x) p) e
            ∙ held_link (set t (link_at (link_for k s)) x) (link_for k s)
            ∙ get_or-set_same t (link_at (link_for k s)) x 0 (link-lt t c (link_for k s) z j.most))
        | no ne ↦ rw (ne_eqb q (link_number (link_for k s)) ne)
            (get_or-set_other t (link_at (link_for k s)) (link_at (link_numbered q)) x 0
            (λ e. ne (sym (link-code q) ∙ one_place (link_numbered q) (link_for k s) (code-link-in q i) j e)))
      ]

  put-part : (p : Part) (k x : ℕ) → ProperPart c p k → held_at (set t (place_of k p) x) q ≡ held_part p k x q (held_at t q)
  unfolding held_part link_at
  put-part (son_on s) k x j = put-link k s x j
  put-part (register_on s) k x j =
      rw (ne_eqb k 0 (λ e. omega (arith, j.0)))
      (unfold held_at in get_or-set_other t (base k + register_place s) (link_at (link_numbered q)) x 0
      (no_register (link_numbered q) (code-link-in q i) k s j.0))

pub held-edits : {t : List ℕ} {c : ℕ} → Sized t c → (q : ℕ) → CodeIn c q → (es : List Edit) → AllProper c es
    → held_at (written t (writes es)) q ≡ held_by es q (held_at t q)
unfolding written writes held_by
held-edits {t} {c} z q i [] a = refl
held-edits {t} {c} z q i (e ∷ es) a =
    let still : Sized (set t (place_of e.slot e.part) e.what) c
    = record { room = simp length-set z.room; some = z.some; most = z.most } in
    held-edits {t = set t (place_of e.slot e.part) e.what} {c = c} still q i es a.1
    ∙ ap (held_by es q) (put-part z q i e.part e.slot e.what a.0)

-- where slot k is noted after an edit, and after several
unfoldable pub note_part : Part → ℕ → ℕ → ℕ → ℕ → ℕ
note_part (son_on s) j x k y = cond (eqb k x) (link_number (link_for j s)) y
note_part (register_on s) j x k y = y

unfoldable pub note_by : List Edit → ℕ → ℕ → ℕ
note_by [] k y = y
note_by (e ∷ es) k y = note_by es k (note_part e.part e.slot e.what k y)

-- every slot that is hung somewhere has an entry
abbrev pub Noted : Part → ℕ → Type 0
Noted (son_on s) x = x ≤ 4095
Noted (register_on s) x = Unit {0}

abbrev pub EachNoted : List Edit → Type 0
EachNoted [] = Unit {0}
EachNoted (e ∷ es) = Noted e.part e.what × EachNoted es

module _ (h : List ℕ) (len : length h ≡ 4096) where
  note-length : (p : Part) (j x : ℕ) → length (noted_part p j x h) ≡ 4096
  unfolding noted_part
  note-length (son_on s) j x = length-set h x (link_number (link_for j s)) ∙ len
  note-length (register_on s) j x = len

  note-part : (p : Part) (j x k : ℕ) → Noted p x → get_or (noted_part p j x h) k 0 ≡ note_part p j x k (get_or h k 0)
  unfolding noted_part note_part
  note-part (son_on s) j x k n =
      elim (ℕ_discrete k x) [
        | yes e ↦ rw (e, eq-eqb x x refl) (get_or-set_same h x (link_number (link_for j s)) 0 (omega arith))
        | no ne ↦ rw (ne_eqb k x ne) (get_or-set_other h x k (link_number (link_for j s)) 0 ne)
      ]
  note-part (register_on s) j x k n = refl

pub note-edits : (h : List ℕ) → length h ≡ 4096 → (k : ℕ) (es : List Edit) → EachNoted es
    → (length (noted es h) ≡ 4096) × (get_or (noted es h) k 0 ≡ note_by es k (get_or h k 0))
unfolding noted note_by
note-edits h len k [] a = (len, refl)
note-edits h len k (e ∷ es) a =
    let r = note-edits (noted_part e.part e.slot e.what h) (note-length h len e.part e.slot e.what) k es a.1 in
    (r.0, r.1 ∙ ap (note_by es k) (note-part h len e.part e.slot e.what k a.0))
