-- Records put one after the other, from a list of their slots. Assumes nothing.
use Prim.Native.Nat.{ℕ, ◌+◌, ◌*◌, ◌≤◌, ◌<◌}
use mathlib.Core.Path.{◌≡◌, refl, sym, ap, ◌∙◌}
use mathlib.Core.List.{List, [], ◌∷◌, ◌++◌, append-nil, append_assoc}
use native.Mathlib.Omega.{arith}
use native.Mathlib.Nat.{add-zero}
use native.Mathlib.Numerals.{add-one}
use lib.ListN.{length, take, get_or}
use lib.Seq.{take-suc, take_all}
use Rattle.scope.specs.Table.{slot_at}
use Rattle.scope.specs.Sound.{tree_in}
use Rattle.scope.specs.Sums.{slots_in_order}
use Rattle.text_print.specs.Put.{laid, PutIn}
use Rattle.text_print.specs.Line.{record_line, record_room}
use Rattle.text_print.proofs.Laid.{both-put}
use Rattle.spelling.specs.Whole.{Whole}
use Rattle.in_order.specs.Listed.{InOrder}
use Rattle.in_order.proofs.Slots.{listed-count, listed-is, listed-few}
use Rattle.text_list.specs.List.{record_lines, all_lines}

lines-append : (t l r : List ℕ) → record_lines t (l ++ r) ≡ record_lines t l ++ record_lines t r
unfolding record_lines
lines-append t [] r = refl
lines-append t (k ∷ l) r =
    ap (λ (x : List ℕ). record_line k (slot_at t k) ++ x) (lines-append t l r)
    ∙ sym (append_assoc (record_line k (slot_at t k)) (record_lines t l) (record_lines t r))

-- the first i records are put
abbrev pub FirstPut : List ℕ → ℕ → List ℕ → ℕ → List ℕ → ℕ → ℕ → Type 0
FirstPut t c old at new p i = PutIn old at (record_lines t (take i (slots_in_order (tree_in t c)))) new p (record_room * i)

pub first-none : (t : List ℕ) (c : ℕ) (old : List ℕ) (at : ℕ) → FirstPut t c old at old at 0
unfolding record_lines laid
first-none t c old at = record { put = record { holds = refl; place = sym (add-zero at) }; within = omega arith }

module _ {t : List ℕ} {c : ℕ} {list : List ℕ} {n : ℕ} (o : InOrder t c list n) where
  abbrev slots : List ℕ
  slots = slots_in_order (tree_in t c)

  lines_more : (i : ℕ) → i < n
      → record_lines t (take (i + 1) slots)
      ≡ record_lines t (take i slots) ++ record_line (get_or list i 0) (slot_at t (get_or list i 0))
  unfolding record_lines
  lines_more i h =
      let k = get_or list i 0 in
      let e : take (i + 1) slots ≡ take i slots ++ (k ∷ []) =
      rw (add-one i, listed-is o i h) (take-suc slots i 0 (omega (arith, h, listed-count o))) in
      ap (record_lines t) e
      ∙ lines-append t (take i slots) (k ∷ [])
      ∙ ap (λ (x : List ℕ). record_lines t (take i slots) ++ x) (append-nil (record_line k (slot_at t k)))

  pub first_more : {old new new' : List ℕ} {at p q : ℕ} (i : ℕ) → i < n → FirstPut t c old at new p i
      → PutIn new p (record_line (get_or list i 0) (slot_at t (get_or list i 0))) new' q record_room
      → FirstPut t c old at new' q (i + 1)
  first_more i h x y =
      let z = both-put x y in
      record { put = rw (lines_more i h) z.put; within = omega (arith, z.within) }

  pub first-all : {old new : List ℕ} {at p : ℕ} → Whole t c → (i : ℕ) → i ≡ n → FirstPut t c old at new p i
      → PutIn old at (all_lines t c) new p (record_room * c)
  first-all w i e x =
      let q : length slots ≤ i = omega (arith, e, listed-count o) in
      record { put = rw (take_all i slots q) at x.put; within = omega (arith, x.within, e, listed-few w o) }

-- the part of a list that was written is all in order
pub cut : {t : List ℕ} {c : ℕ} {list : List ℕ} {n : ℕ} → InOrder t c list n → InOrder t c (take n list) (length (take n list))
cut {list = list} {n = n} o =
    record { is = take_all (length (take n list)) (take n list) (omega arith) ∙ o.is; within = omega arith }

-- more room does no harm
pub wider : {a t b : List ℕ} {at p m n : ℕ} → PutIn a at t b p m → m ≤ n → PutIn a at t b p n
wider x h = record { put = x.put; within = omega (arith, x.within) }
