-- What a list of edits makes of every slot and of the header. Assumes nothing.
use Prim.Native.Nat.{ℕ, ◌+◌, ◌≤◌, ◌<◌}
use mathlib.Core.Path.{◌≡◌, refl, sym, ◌∙◌, ap}
use mathlib.Core.Bool.{cond}
use mathlib.Core.List.{List, [], ◌∷◌}
use native.Mathlib.Omega.{arith}
use native.Mathlib.Decide.{ℕ_discrete}
use lib.ListN.{set, length-set}
use lib.Seq.{get_or-set_same, get_or-set_other}
use lib.Dec.{eqb}
use borrow.Author.Tests.{eq-eqb, ne_eqb}
use Rattle.scope.specs.Table.{head_words, slot_words, word, root_word, base, slot_at, slot_of, written}
use Rattle.scope.specs.declared.side.Side.TheVariants.{Left, Right}
use Rattle.spelling.specs.Ready.{Sized}
use Rattle.spelling.proofs.Slots.{words-slot}
use Rattle.scope.specs.Edits.{Part, son_on, register_on, offset, Edit, place_of, writes}
use Rattle.bridge.specs.Edit.{shape, with_part, edited, rooted}

abbrev changed : Part → ℕ → (ℕ → ℕ) → ℕ → ℕ
changed p x g f = cond (eqb f (offset p)) x (g f)

part_of : (p : Part) (x : ℕ) (g : ℕ → ℕ) → slot_of (changed p x g) ≡ with_part p x (slot_of g)
unfolding with_part shape
part_of (son_on Left) x g = refl
part_of (son_on Right) x g = refl
part_of (register_on Left) x g = refl
part_of (register_on Right) x g = refl

offset-lt : (p : Part) → offset p < slot_words
offset-lt (son_on Left) = omega arith
offset-lt (son_on Right) = omega arith
offset-lt (register_on Left) = omega arith
offset-lt (register_on Right) = omega arith

module _ {t : List ℕ} {c : ℕ} (z : Sized t c) (k x : ℕ) (p : Part) where
  -- the slot that is written has the new number in that part
  put-here : 1 ≤ k → k ≤ c → slot_at (set t (base k + offset p) x) k ≡ with_part p x (slot_at t k)
  put-here i j =
      words-slot (set t (base k + offset p) x) k (changed p x (λ f. word t (base k + f))) (λ f h. at f h (ℕ_discrete f (offset p)))
      ∙ part_of p x (λ f. word t (base k + f))
      ∙ ap (with_part p x) (sym (words-slot t k (λ f. word t (base k + f)) (λ f h. refl)))
    where
      at : (f : ℕ) → f < slot_words → Dec (f ≡ offset p)
          → word (set t (base k + offset p) x) (base k + f) ≡ changed p x (λ f. word t (base k + f)) f
      at f h (yes e) = rw (e, eq-eqb (offset p) (offset p) refl) (get_or-set_same t (base k + offset p) x 0 (omega (arith, offset-lt p)))
      at f h (no ne) = rw (ne_eqb f (offset p) ne) (get_or-set_other t (base k + offset p) (base k + f) x 0 (λ q. ne (omega arith)))

  -- every other slot is as it was
  put-there : (j : ℕ) → 1 ≤ k → 1 ≤ j → (j ≡ k → ⊥) → slot_at (set t (base k + offset p) x) j ≡ slot_at t j
  put-there j i h ne =
      words-slot (set t (base k + offset p) x) j (λ f. word t (base j + f))
      (λ f l. get_or-set_other t (base k + offset p) (base j + f) x 0 (λ q. ne (omega (arith, offset-lt p))))
      ∙ sym (words-slot t j (λ f. word t (base j + f)) (λ f h. refl))

  -- one edit
  put-slot : (j : ℕ) → k ≤ c → 1 ≤ j
      → slot_at (set t (place_of k p) x) j ≡ cond (eqb j k) (with_part p x (slot_at t j)) (slot_at t j)
  put-slot j h i =
      elim (ℕ_discrete k 0) [
        | yes e ↦ simp (eq-eqb k 0 e, ne_eqb j k (λ q. omega arith))
            (words-slot (set t root_word x) j (λ f. word t (base j + f))
            (λ f l. get_or-set_other t root_word (base j + f) x 0 (λ q. omega arith))
            ∙ sym (words-slot t j (λ f. word t (base j + f)) (λ f h. refl)))
        | no ne ↦ elim (ℕ_discrete j k) [
          | yes e ↦ rw (e, ne_eqb k 0 ne, eq-eqb k k refl) (put-here (omega arith) h)
          | no me ↦ rw (ne_eqb k 0 ne, ne_eqb j k me) (put-there j (omega arith) i me)
        ]
      ]

  -- the words of the header but the first stay
  put-head : (i : ℕ) → 1 ≤ i → i < head_words → word (set t (place_of k p) x) i ≡ word t i
  put-head i h l =
      elim (ℕ_discrete k 0) [
        | yes e ↦ rw (eq-eqb k 0 e) (get_or-set_other t root_word i x 0 (λ q. omega arith))
        | no ne ↦ rw (ne_eqb k 0 ne) (get_or-set_other t (base k + offset p) i x 0 (λ q. omega arith))
      ]

  put-root : word (set t (place_of k p) x) root_word ≡ cond (eqb k 0) x (word t root_word)
  put-root =
      elim (ℕ_discrete k 0) [
        | yes e ↦ rw (eq-eqb k 0 e) (get_or-set_same t root_word x 0 (omega arith))
        | no ne ↦ rw (ne_eqb k 0 ne) (get_or-set_other t (base k + offset p) root_word x 0 (λ q. omega arith))
      ]

  put-sized : Sized (set t (place_of k p) x) c
  put-sized = record { room = simp length-set z.room; some = z.some; most = z.most }

-- all of them lie in a table of c slots
abbrev pub EditsInside : ℕ → List Edit → Type 0
EditsInside c [] = Unit {0}
EditsInside c (e ∷ es) = (e.slot ≤ c) × EditsInside c es

-- what several edits leave
pub record Rewritten (t t' : List ℕ) (c : ℕ) (es : List Edit) : Type 0 where
  pub sized : Sized t' c
  pub slots : (k : ℕ) → 1 ≤ k → slot_at t' k ≡ edited es k (slot_at t k)
  pub root : word t' root_word ≡ rooted es (word t root_word)
  pub head : (i : ℕ) → 1 ≤ i → i < head_words → word t' i ≡ word t i

pub rewritten : {t : List ℕ} {c : ℕ} → Sized t c → (es : List Edit) → EditsInside c es
    → Rewritten t (written t (writes es)) c es
unfolding written writes edited rooted
rewritten {t = t} {c = c} z [] i = record { sized = z; slots = λ k h. refl; root = refl; head = λ i h l. refl }
rewritten {t = t} {c = c} z (e ∷ es) i =
    let k = e.slot in
    let r = rewritten {t = set {A = ℕ} t (place_of e.slot e.part) e.what} {c = c} (put-sized z k e.what e.part) es i.1 in
    record {
      sized = r.sized;
      slots = λ j h. r.slots j h ∙ ap (edited es j) (put-slot z k e.what e.part j i.0 h);
      root = r.root ∙ ap (rooted es) (put-root z k e.what e.part);
      head = λ j h l. r.head j h l ∙ put-head z k e.what e.part j h l;
    }
