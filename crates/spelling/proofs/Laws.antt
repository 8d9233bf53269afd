-- What a passed test tells: of the length, the header, a slot, an open gate. Assumes nothing.
use Prim.Native.Nat.{ℕ, ◌+◌, ◌≤◌, ◌<◌, ◌/◌, ◌%◌}
use mathlib.Core.Path.{◌≡◌, refl}
use mathlib.Core.Bool.{Bool, true, false, ◌&&◌, not}
use mathlib.Core.List.{List}
use native.Mathlib.Omega.{arith}
use borrow.Author.Tests.{leb-true, eqb-true, eqb-false, ne_eqb}
use lib.ListN.{length}
use lib.Dec.{eqb, leb}
use Rattle.scope.proofs.Errs.{named_so}
use Rattle.scope.proofs.Bools.{and_l, and_r, by_bool, never}
use Rattle.scope.specs.Numbers.{slots_of}
use Rattle.scope.specs.Table.{head_words, slot_words, word, root_word, count_word, slots_in, base, slot_at, son, link_at}
use Rattle.scope.specs.Table.{link_place, register_at, register_place, InTable}
use Rattle.scope.specs.Fit.{state_ok, pieces_ok, link_ok, tail_fits, fit_slot, header_ok}
use Rattle.scope.specs.Answers.{gate, on_slots, admit}
use Rattle.scope.specs.declared.slot.Slot.{Slot}
use Rattle.scope.specs.declared.slots.Slots.{Slots}
use Rattle.scope.specs.declared.side.Side.{Side}
use Rattle.scope.specs.declared.side.Side.TheVariants.{Left, Right}
use Rattle.scope.specs.declared.side.Link.{Link}
use Rattle.spelling.specs.Ready.{Sized, Ready}
use Rattle.std.specs.Prelude.{Option, Some, None, Ok, ok_or}
use Rattle.scope.specs.declared.answer.Refusal.{Refusal}

-- a number of slots that is taken is from 1 to 4,095
slots-in-range : (n : ℕ) (s : Slots) → slots_of n ≡ Some s → (s.count ≡ n) × (1 ≤ n) × (n ≤ 4095)
unfolding slots_of
slots-in-range n s e =
    by_bool (not (eqb n 0) && leb n 4095)
    (λ p. let z = simp p at e in
    let k : s.count ≡ n = cc in
    by_bool (eqb n 0)
    (λ q. let w = simp q at p in never cc)
    (λ q. (k, omega (arith, eqb-false n 0 q), leb-true n 4095 (and_r (not (eqb n 0)) _ p))))
    (λ p. let z = simp p at e in never cc)

-- the slots of a length fill it
pub slots-room : (t : List ℕ) (s : Slots) → slots_in (length t) ≡ Some s → Sized t s.count
unfolding slots_in
slots-room t s e =
    by_bool (eqb (length t % slot_words) head_words)
    (λ p. let z = simp p at e in
    let k = slots-in-range (length t / slot_words) s z in
    record { room = omega (arith, eqb-true (length t % slot_words) head_words p); some = omega arith; most = omega arith })
    (λ p. let z = simp p at e in never cc)

-- the same of slots that a length answers
pub slots_sized : (t : List ℕ) (s : Slots) (why : Refusal) → ok_or (slots_in (length t)) why ≡ Ok s → Sized t s.count
slots_sized t s why e = slots-room t s (named_so _ why e)

-- what a good header tells
pub header-root : (c : ℕ) (t : List ℕ) → header_ok c t ≡ true → word t root_word ≤ c
unfolding header_ok
header-root c t e = leb-true _ _ (and_l _ _ (and_l _ _ e))

pub header-count : (c : ℕ) (t : List ℕ) → header_ok c t ≡ true → word t count_word ≤ c
unfolding header_ok
header-count c t e = leb-true _ _ (and_r (leb (word t root_word) c) _ (and_l _ _ e))

-- an open gate passed its three tests: the table has c slots, the arguments are in range, and it is whole
pub record Passed (t : List ℕ) (good : Bool) (whole : ℕ → Bool) (c : ℕ) : Type 0 where
  pub sized : Sized t c
  pub good_is : good ≡ true
  pub whole_is : whole c ≡ true

admitted : (good whole : Bool) (n c : ℕ) → admit good whole n ≡ Ok c → (n ≡ c) × (good ≡ true) × (whole ≡ true)
admitted true true n c e = (cc, refl, refl)
admitted true false n c e = never cc
admitted false whole n c e = never cc

-- the same for a slot count that has been read
gate-at : (t : List ℕ) (good : Bool) (whole : ℕ → Bool) (c : ℕ) (s : Option Slots) → slots_in (length t) ≡ s
    → on_slots s (λ n. admit good (whole n) n) ≡ Ok c → Passed t good whole c
gate-at t good whole c None q e = never cc
gate-at t good whole c (Some s) q e =
    let p = admitted good (whole s.count) s.count c e in
    record { sized = rw (← p.0) (slots-room t s q); good_is = p.1; whole_is = rw (← p.0) p.2 }

pub gate-passed : (t : List ℕ) (good : Bool) (whole : ℕ → Bool) (c : ℕ) → gate t good whole ≡ Ok c → Passed t good whole c
unfolding gate
gate-passed t good whole c e = gate-at t good whole c (slots_in (length t)) refl e

-- a call that tests the header at its gate finds the table ready
pub gate-ready : (t : List ℕ) (good : Bool) (c : ℕ) → gate t good (λ n. header_ok n t) ≡ Ok c → Ready t c
gate-ready t good c e =
    let p = gate-passed t good (λ n. header_ok n t) c e in
    record { sized = p.sized; root = header-root c t p.whole_is; count = header-count c t p.whole_is }

-- a slot from 1 to c lies in a table of c slots
pub in_table : {t : List ℕ} {c : ℕ} (k : ℕ) → Sized t c → 1 ≤ k → k ≤ c → InTable t k
in_table k s p q = record { first = p; whole = omega arith }

-- what a fit slot tells
pub record Fits (c : ℕ) (s : Slot) : Type 0 where
  pub state : state_ok s.state ≡ true
  pub left : link_ok c s.left s.lefth ≡ true
  pub right : link_ok c s.right s.righth ≡ true

six : (a b p l r z : Bool) → (a && b && p && l && r && z) ≡ true → (a ≡ true) × (l ≡ true) × (r ≡ true)
six a b p l r z e =
    let e1 = and_l (a && b && p && l && r) z e in
    let e2 = and_l (a && b && p && l) r e1 in
    (and_l a b (and_l (a && b) p (and_l (a && b && p) l e2)), and_r (a && b && p) l e2, and_r (a && b && p && l) r e1)

pub fits : (c : ℕ) (s : Slot) → fit_slot c s ≡ true → Fits c s
unfolding fit_slot
fits c s e =
    let p = six (state_ok s.state) (not (eqb s.key 0)) (pieces_ok s.pieces)
    (link_ok c s.left s.lefth) (link_ok c s.right s.righth) (tail_fits s) e in
    record { state = p.0; left = p.1; right = p.2 }

link-le : (c l h : ℕ) → link_ok c l h ≡ true → (l ≤ c) × (h ≤ 65535)
unfolding link_ok
link-le c l h e = (leb-true _ _ (and_l _ _ (and_l _ _ e)), leb-true _ _ (and_r (leb l c) _ (and_l _ _ e)))

-- the links of a fit slot lie in the table, and its registers in their range
pub fit-left : (c : ℕ) (s : Slot) → fit_slot c s ≡ true → (s.left ≤ c) × (s.lefth ≤ 65535)
fit-left c s e = link-le c _ _ (fits c s e).left

pub fit-right : (c : ℕ) (s : Slot) → fit_slot c s ≡ true → (s.right ≤ c) × (s.righth ≤ 65535)
fit-right c s e = link-le c _ _ (fits c s e).right

pub fit-son : (c : ℕ) (s : Slot) (side : Side) → fit_slot c s ≡ true → son s side ≤ c
fit-son c s Left e = (fit-left c s e).0
fit-son c s Right e = (fit-right c s e).0

-- the places of links and registers lie in the table
place-le : (s : Side) → link_place s ≤ 4
place-le Left = omega arith
place-le Right = omega arith

register-le : (s : Side) → register_place s ≤ 6
register-le Left = omega arith
register-le Right = omega arith

pub link-lt : (t : List ℕ) (c : ℕ) (l : Link) → Sized t c → l.holder ≤ c → link_at l < length t
unfolding link_at
link-lt t c l s le =
    by_bool (eqb l.holder 0)
    (λ p. simp p (omega arith))
    (λ p. simp p (omega (arith, eqb-false l.holder 0 p, place-le l.side)))

pub register-lt : (t : List ℕ) (c k : ℕ) (s : Side) → Sized t c → 1 ≤ k → k ≤ c → register_at k s < length t
register-lt t c k s z p q = omega (arith, register-le s)

-- the number in a link is the holder's son
pub link-son : (t : List ℕ) (l : Link) → 1 ≤ l.holder → word t (link_at l) ≡ son (slot_at t l.holder) l.side
unfolding link_at
link-son t l i = rw (ne_eqb l.holder 0 (λ q. omega arith)) (on l.side)
  where
    on : (s : Side) → word t (base l.holder + link_place s) ≡ son (slot_at t l.holder) s
    on Left = unfold slot_at in refl
    on Right = unfold slot_at in refl
