-- Texts put one after the other. Assumes nothing.
use Prim.Native.Nat.{ℕ, suc, ◌+◌}
use mathlib.Core.Path.{◌≡◌, refl, sym, ap, ◌∙◌}
use mathlib.Core.List.{List, [], ◌∷◌, ◌++◌, append-nil, append_assoc}
use native.Mathlib.Omega.{arith}
use native.Mathlib.Nat.{add-zero}
use lib.ListN.{length, set, length-append}
use Rattle.text_fields.specs.Decimal.{field, fields}
use Rattle.scope.specs.declared.slot.Slot.{Slot}
use Rattle.text_print.specs.Put.{laid, Put, PutIn}
use Rattle.text_print.specs.Line.{newline, start_words, end_words, record_start, record_end, record_line}

-- two texts are one
pub laid_then : (l : List ℕ) (at : ℕ) (t u : List ℕ) → laid (laid l at t) (at + length t) u ≡ laid l at (t ++ u)
unfolding laid
laid_then l at [] u = rw add-zero
laid_then l at (c ∷ t) u =
    let e : at + suc (length t) ≡ at + 1 + length t = omega arith in
    rw e (laid_then (set l at c) (at + 1) t u)

pub put_then : {a b c t u : List ℕ} {at p q : ℕ} → Put a at t b p → Put b p u c q → Put a at (t ++ u) c q
put_then {a} {b} {c} {t} {u} {at} {p} {q} x y =
    record {
      holds =
          y.holds
          ∙ ap (λ (l : List ℕ). laid l p u) x.holds
          ∙ ap (λ (k : ℕ). laid (laid a at t) k u) x.place
          ∙ laid_then a at t u;
      place = omega (arith, x.place, y.place, length-append t u);
    }

-- one byte, and one byte more
pub put_byte : (l : List ℕ) (at c : ℕ) → Put l at (c ∷ []) (set l at c) (at + 1)
unfolding laid
put_byte l at c = record { holds = refl; place = refl }

pub put-more : {old text new : List ℕ} {at next : ℕ} (c : ℕ) → Put old at text new next
    → Put old at (text ++ (c ∷ [])) (set new next c) (next + 1)
put-more {new = new} {next = next} c x = put_then x (put_byte new next c)

-- texts with their room
pub both-put : {a b c t u : List ℕ} {at p q m n : ℕ} → PutIn a at t b p m → PutIn b p u c q n → PutIn a at (t ++ u) c q (m + n)
both-put x y = record { put = put_then x.put y.put; within = omega (arith, x.within, y.within) }

-- a field in front of others
pub field-then : {a b c : List ℕ} {at p q m k : ℕ} (w : List ℕ) (n : ℕ) (ws : List (List ℕ)) (ns u : List ℕ)
    → PutIn a at (field w n) b p m → PutIn b p (fields ws ns ++ u) c q k → PutIn a at (fields (w ∷ ws) (n ∷ ns) ++ u) c q (m + k)
unfolding fields
field-then w n ws ns u x y = rw (append_assoc (field w n) (fields ws ns) u) (both-put x y)

-- what stands after the last field
pub last-text : {a u b : List ℕ} {at p : ℕ} → Put a at u b p → PutIn a at (fields [] [] ++ u) b p (length u)
unfolding fields
last-text x = record { put = x; within = omega (arith, x.place) }

pub no_text : (l : List ℕ) (at : ℕ) → PutIn l at (fields [] [] ++ []) l at 0
unfolding fields laid
no_text l at = record { put = record { holds = refl; place = sym (add-zero at) }; within = omega arith }

pub no_more : {a b : List ℕ} {at p m : ℕ} (t : List ℕ) → PutIn a at (t ++ []) b p m → PutIn a at t b p m
no_more t x = rw (append-nil t) at x

-- the line of a record is its two parts
fields-append : (ws vs : List (List ℕ)) (ns ms : List ℕ) → length ws ≡ length ns
    → fields (ws ++ vs) (ns ++ ms) ≡ fields ws ns ++ fields vs ms
unfolding fields
fields-append [] vs [] ms e = refl
fields-append [] vs (n ∷ ns) ms e = absurd (omega arith)
fields-append (w ∷ ws) vs [] ms e = absurd (omega arith)
fields-append (w ∷ ws) vs (n ∷ ns) ms e =
    ap (λ (l : List ℕ). field w n ++ l) (fields-append ws vs ns ms (omega arith)) ∙ sym
    (append_assoc (field w n) (fields ws ns) (fields vs ms))

pub record-parts : (slot : ℕ) (s : Slot)
    → record_line slot s ≡ record_start s.key s.pieces s.state slot ++ record_end s.left s.right s.lefth s.righth
unfolding record_line record_start record_end
record-parts slot s =
    let first = s.key ∷ s.pieces ∷ s.state ∷ slot ∷ [] in
    let last = s.left ∷ s.right ∷ s.lefth ∷ s.righth ∷ [] in
    ap (λ (l : List ℕ). l ++ newline) (fields-append start_words end_words first last refl)
    ∙ append_assoc (fields start_words first) (fields end_words last) newline
