-- A slot is its words, and what is written into it lies in it: the laws that name every word of a slot. Assumes nothing.
use Prim.Native.Nat.{ℕ, ◌+◌, ◌≤◌, ◌<◌}
use mathlib.Core.Path.{◌≡◌, refl, subst, ◌∙◌}
use mathlib.Core.Bool.{Bool, true, ◌&&◌}
use mathlib.Core.List.{List, [], ◌∷◌}
use native.Mathlib.Nat.{add-zero}
use native.Mathlib.Omega.{arith}
use lib.ListN.{length, set, length-set}
use lib.Dec.{eqb}
use borrow.Author.Tests.{eqb-true}
use lib.Seq.{get_or-set_same, get_or-set_other}
use Rattle.scope.specs.Table.{slot_words, word, base, slot_at, slot_of, with_slot, slot_writes, son, Write, put, written}
use Rattle.scope.proofs.Bools.{and_l, and_r}
use Rattle.scope.specs.Fit.{blank_slot}
use Rattle.scope.specs.declared.side.Side.{Side}
use Rattle.scope.specs.declared.side.Side.TheVariants.{Left, Right}
use Rattle.scope.specs.declared.slot.Slot.{Slot}
use Rattle.spelling.specs.Ready.{Sized}

-- a slot whose words are known
pub words-slot : (t : List ℕ) (k : ℕ) (g : ℕ → ℕ) → ((f : ℕ) → f < slot_words → word t (base k + f) ≡ g f)
    → slot_at t k ≡ slot_of g
unfolding slot_at
words-slot t k g e =
    let z : word t (base k) ≡ g 0 = rw (add-zero (base k)) at (e 0 (omega arith)) in
    cc (
      z,
      e 1 (omega arith),
      e 2 (omega arith),
      e 3 (omega arith),
      e 4 (omega arith),
      e 5 (omega arith),
      e 6 (omega arith),
      e 7 (omega arith),
    )

-- the places of some writes have a property
abbrev pub AllPlaces : (ℕ → Type 0) → List Write → Type 0
AllPlaces P [] = Unit {0}
AllPlaces P (w ∷ ws) = P w.place × AllPlaces P ws

-- what every place of a slot has, the places of its words have
pub each-place : (P : ℕ → Type 0) (k : ℕ) (s : Slot) → ((f : ℕ) → f < slot_words → P (base k + f))
    → AllPlaces P (slot_writes k s)
each-place P k s h = (
  subst P (add-zero (base k)) (h 0 (omega arith)),
  (
    h 1 (omega arith),
    (
      h 2 (omega arith),
      (
        h 3 (omega arith),
        (h 4 (omega arith), (h 5 (omega arith), (h 6 (omega arith), (h 7 (omega arith), tt)))),
      ),
    ),
  ),
)

-- a word that is not written stays
pub unwritten : (t : List ℕ) (i : ℕ) (ws : List Write) → AllPlaces (λ p. i ≡ p → ⊥) ws → word (written t ws) i ≡ word t i
unfolding written
unwritten t i [] h = refl
unwritten t i (w ∷ ws) h =
    unwritten (set t w.place w.what) i ws h.1 ∙ get_or-set_other t w.place i w.what 0 h.0

-- a word that is written and not written again
kept : (t : List ℕ) (i x : ℕ) (ws : List Write) → i < length t → AllPlaces (λ p. i ≡ p → ⊥) ws
    → word (written (set t i x) ws) i ≡ x
kept t i x ws h f = unwritten (set t i x) i ws f ∙ get_or-set_same t i x 0 h

module _ {t : List ℕ} {c : ℕ} (z : Sized t c) (k : ℕ) (s : Slot) (first : 1 ≤ k) (most : k ≤ c) where
  pub slot-here : slot_at (with_slot t k s) k ≡ s
  unfolding slot_at with_slot written
  slot-here =
      let b = base k in
      let t1 = set t b s.state in
      let t2 = set t1 (b + 1) s.key in
      let t3 = set t2 (b + 2) s.pieces in
      let t4 = set t3 (b + 3) s.left in
      let t5 = set t4 (b + 4) s.right in
      let t6 = set t5 (b + 5) s.lefth in
      let t7 = set t6 (b + 6) s.righth in
      let w8 = put (b + 7) s.last ∷ [] in
      let w7 = put (b + 6) s.righth ∷ w8 in
      let w6 = put (b + 5) s.lefth ∷ w7 in
      let w5 = put (b + 4) s.right ∷ w6 in
      let w4 = put (b + 3) s.left ∷ w5 in
      let w3 = put (b + 2) s.pieces ∷ w4 in
      let w2 = put (b + 1) s.key ∷ w3 in
      λ i. record {
        state = kept t b s.state w2 (omega arith) (omega arith) i;
        key = kept t1 (b + 1) s.key w3 (simp length-set (omega arith)) (omega arith) i;
        pieces = kept t2 (b + 2) s.pieces w4 (simp length-set (omega arith)) (omega arith) i;
        left = kept t3 (b + 3) s.left w5 (simp length-set (omega arith)) (omega arith) i;
        right = kept t4 (b + 4) s.right w6 (simp length-set (omega arith)) (omega arith) i;
        lefth = kept t5 (b + 5) s.lefth w7 (simp length-set (omega arith)) (omega arith) i;
        righth = kept t6 (b + 6) s.righth w8 (simp length-set (omega arith)) (omega arith) i;
        last = kept t7 (b + 7) s.last [] (simp length-set (omega arith)) tt i;
      }

-- a blank slot begins with a zero
pub blank-state : (x : Slot) → blank_slot x ≡ true → eqb x.state 0 ≡ true
unfolding blank_slot
blank-state x e =
    and_l _ _ (and_l _ _ (and_l _ _ (and_l _ _ (and_l _ _ (and_l _ _ (and_l _ _ e))))))

-- and holds no slot
two-parts : (a l r x y z : Bool) → (a && l && r && x && y && z) ≡ true → (l ≡ true) × (r ≡ true)
two-parts a l r x y z e =
    let f = and_l (a && l && r) x (and_l (a && l && r && x) y (and_l (a && l && r && x && y) z e)) in
    (and_r a l (and_l (a && l) r f), and_r (a && l) r f)

pub blank-son : (x : Slot) → blank_slot x ≡ true → (s : Side) → son x s ≡ 0
unfolding blank_slot
blank-son x e =
    let h = two-parts (eqb x.state 0 && eqb x.key 0 && eqb x.pieces 0) (eqb x.left 0) (eqb x.right 0)
    (eqb x.lefth 0) (eqb x.righth 0) (eqb x.last 0) e in
    λ s. elim s as (λ s. son x s ≡ 0) [ Left ↦ eqb-true x.left 0 h.0 | Right ↦ eqb-true x.right 0 h.1 ]
