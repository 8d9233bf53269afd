-- The tests that `gate` takes together say what the tests one by one say. Assumes nothing.
use Prim.Native.Nat.{ℕ, ◌+◌, ◌*◌, ◌≤◌}
use mathlib.Core.Path.{◌≡◌, refl, sym, ◌∙◌}
use mathlib.Core.Bool.{Bool, true, false, not, ◌&&◌, ◌||◌}
use mathlib.Core.List.{List}
use native.Mathlib.Omega.{arith}
use native.Mathlib.Decide.{ℕ_discrete}
use lib.Dec.{leb, eqb}
use lib.Bits.{bit_or, or_lt, or_add_and, and_le_l, and_le_r}
use borrow.Author.Tests.{leb-true, le-leb, eqb-true, eq-eqb, ne_eqb}
use Rattle.scope.specs.Numbers.{most_height, most_slots}
use Rattle.scope.specs.Table.{word, root_word, count_word, zero_word}
use Rattle.scope.specs.Fit.{state_ok, pieces_ok, link_ok, tail_ok, tail_fits, fit_slot, header_ok}
use Rattle.scope.specs.declared.slot.Slot.{Slot}
use Rattle.scope.proofs.Bools.{and_l, and_r, both, never}
use Rattle.gate.specs.Parts.{burden_of, spare_of, beside_of, bounds_ok, ends_ok, visit_ok}

-- two tests that pass alike
same : (a b : Bool) → (a ≡ true → b ≡ true) → (b ≡ true → a ≡ true) → a ≡ b
same true b f g = sym (f refl)
same false true f g = g refl
same false false f g = refl

-- the first and the last word of a slot
pub ends-together : (s l : ℕ) → (eqb (s + 4 * l) 1 || eqb (s + 4 * l) 2) ≡ (state_ok s && tail_ok l)
unfolding state_ok tail_ok
ends-together s l =
    elim (ℕ_discrete l 0) [
      | yes z ↦ let e : s + 4 * l ≡ s = omega arith in rw (e, eq-eqb l 0 z) (same _ _ (λ h. both h refl) (λ h. and_l _ _ h))
      | no ne ↦ rw (
        ne_eqb (s + 4 * l) 1 (λ e. ne (omega arith)),
        ne_eqb (s + 4 * l) 2 (λ e. ne (omega arith)),
        ne_eqb l 0 ne,
      )
          (same _ _ (λ h. absurd (never cc)) (λ h. and_r (eqb s 1 || eqb s 2) false h))
    ]

pub burden-le : (link : ℕ) → burden_of link ≤ most_height
burden-le link =
    elim (ℕ_discrete link 0) [
      | yes z ↦ rw (eq-eqb link 0 z) (omega arith)
      | no ne ↦ rw (ne_eqb link 0 ne) (omega arith)
    ]

-- a register with its burden is within the limit
burdened : (link h : ℕ) → leb (h + burden_of link) most_height ≡ (leb h most_height && (not (eqb link 0) || eqb h 0))
burdened link h =
    elim (ℕ_discrete link 0) [
      | yes z ↦ rw (eq-eqb link 0 z)
          (same _ _
          (λ p. let q = leb-true (h + most_height) most_height p in
          both (le-leb h most_height (omega arith)) (eq-eqb h 0 (omega arith)))
          (λ p. let q = eqb-true h 0 (and_r (leb h most_height) _ p) in le-leb (h + most_height) most_height (omega arith)))
      | no ne ↦ rw (ne_eqb link 0 ne)
          (same _ _
          (λ p. let q = leb-true (h + 0) most_height p in both (le-leb h most_height (omega arith)) refl)
          (λ p. let q = leb-true h most_height (and_l (leb h most_height) _ p) in le-leb (h + 0) most_height (omega arith)))
    ]

-- two numbers are within the limit, which is sixteen ones, exactly if their bits together are
or-within : (a b : ℕ) → leb (bit_or a b) most_height ≡ (leb a most_height && leb b most_height)
or-within a b =
    same _ _
    (λ p. let q = leb-true (bit_or a b) most_height p in
    both (le-leb a most_height (omega (arith, or_add_and a b, and_le_r a b)))
    (le-leb b most_height (omega (arith, or_add_and a b, and_le_l a b))))
    (λ p. let x = leb-true a most_height (and_l (leb a most_height) (leb b most_height) p) in
    let y = leb-true b most_height (and_r (leb a most_height) (leb b most_height) p) in
    let z = or_lt 16 a b (omega (arith, x)) (omega (arith, y)) in
    le-leb (bit_or a b) most_height (omega (arith, z)))

-- a number is at most c exactly if, with what is spare, it is within the limit
spare-within : (c k : ℕ) → c ≤ most_slots → leb (k + spare_of c) most_height ≡ leb k c
spare-within c k l =
    same _ _
    (λ p. let q = leb-true (k + spare_of c) most_height p in le-leb k c (omega (arith, l, q)))
    (λ p. let q = leb-true k c p in le-leb (k + spare_of c) most_height (omega (arith, l, q)))

-- a test after two others, before them
before-both : (l h i : Bool) → ((h && i) && l) ≡ (l && h && i)
before-both true true true = refl
before-both true true false = refl
before-both true false i = refl
before-both false true true = refl
before-both false true false = refl
before-both false false i = refl

-- a link and the register beside it
beside-within : (c link h : ℕ) → c ≤ most_slots → leb (beside_of (spare_of c) link h) most_height ≡ link_ok c link h
unfolding link_ok
beside-within c link h l =
    or-within (h + burden_of link) (link + spare_of c)
    ∙ rw (burdened link h, spare-within c link l)
    (before-both (leb link c) (leb h most_height) (not (eqb link 0) || eqb h 0))

pub bounds-together : (c n : ℕ) (s : Slot) → c ≤ most_slots
    → leb (bit_or (beside_of (spare_of c) s.left s.lefth) (bit_or (beside_of (spare_of c) s.right s.righth) (n + spare_of c)))
    most_height
    ≡ bounds_ok c n s
bounds-together c n s l =
    or-within (beside_of (spare_of c) s.left s.lefth) (bit_or (beside_of (spare_of c) s.right s.righth) (n + spare_of c))
    ∙ rw (
      or-within (beside_of (spare_of c) s.right s.righth) (n + spare_of c),
      beside-within c s.left s.lefth l,
      beside-within c s.right s.righth l,
      spare-within c n l,
    ) refl

-- the same tests in another order
regroup : (e z k p l r v : Bool) → (k && (p && ((l && (r && v)) && (e && z)))) ≡ (v && (e && k && p && l && r && z))
regroup e z k p l r v =
    same _ _
    (λ x.
    let y = and_r k (p && ((l && (r && v)) && (e && z))) x in
    let w = and_r p ((l && (r && v)) && (e && z)) y in
    let lrv = and_l (l && (r && v)) (e && z) w in
    let ez = and_r (l && (r && v)) (e && z) w in
    let rv = and_r l (r && v) lrv in
    both (and_r r v rv)
    (both (both (both (both (both (and_l e z ez) (and_l k (p && ((l && (r && v)) && (e && z))) x))
    (and_l p ((l && (r && v)) && (e && z)) y)) (and_l l (r && v) lrv)) (and_l r v rv)) (and_r e z ez)))
    (λ x.
    let y = and_r v (e && k && p && l && r && z) x in
    let ekplr = and_l (e && k && p && l && r) z y in
    let ekpl = and_l (e && k && p && l) r ekplr in
    let ekp = and_l (e && k && p) l ekpl in
    let ek = and_l (e && k) p ekp in
    both (and_r e k ek) (both (and_r (e && k) p ekp)
    (both (both (and_r (e && k && p) l ekpl) (both (and_r (e && k && p && l) r ekplr) (and_l v (e && k && p && l && r && z) x)))
    (both (and_l e k ek) (and_r (e && k && p && l && r) z y)))))

-- the whole test of a visit in the order of the code
pub visit-together : (c n : ℕ) (s : Slot)
    → (not (eqb s.key 0) && (pieces_ok s.pieces && (bounds_ok c n s && ends_ok s))) ≡ visit_ok c n s
unfolding fit_slot
visit-together c n s =
    regroup (state_ok s.state) (tail_fits s) (not (eqb s.key 0)) (pieces_ok s.pieces) (link_ok c s.left s.lefth)
    (link_ok c s.right s.righth) (leb n c)

-- a word so far up is within the limit only if it is 0
zero-within : (z : ℕ) → leb (z * 65536) most_height ≡ eqb z 0
zero-within z =
    same _ _
    (λ p. let q = leb-true (z * 65536) most_height p in eq-eqb z 0 (omega (arith, q)))
    (λ p. let q = eqb-true z 0 p in le-leb (z * 65536) most_height (omega (arith, q)))

and_assoc : (a b d : Bool) → (a && (b && d)) ≡ (a && b && d)
and_assoc true b d = refl
and_assoc false b d = refl

pub header-together : (c : ℕ) (t : List ℕ) → c ≤ most_slots
    → leb (bit_or (word t root_word + spare_of c) (bit_or (word t count_word + spare_of c) (word t zero_word * 65536))) most_height
    ≡ header_ok c t
unfolding header_ok
header-together c t l =
    or-within (word t root_word + spare_of c) (bit_or (word t count_word + spare_of c) (word t zero_word * 65536))
    ∙ rw (
      or-within (word t count_word + spare_of c) (word t zero_word * 65536),
      spare-within c (word t root_word) l,
      spare-within c (word t count_word) l,
      zero-within (word t zero_word),
    )
    (and_assoc (leb (word t root_word) c) (leb (word t count_word) c) (eqb (word t zero_word) 0))
