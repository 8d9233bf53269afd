-- What a write leaves: a tree stays where the words of its slots stay. Assumes nothing.
use Prim.Native.Nat.{ℕ, ◌+◌, ◌≤◌, ◌<◌}
use mathlib.Core.Path.{◌≡◌, refl, sym, ap, ◌∙◌}
use mathlib.Core.Bool.{Bool, cond}
use mathlib.Core.List.{List}
use native.Mathlib.Omega.{arith}
use lib.ListN.{set}
use lib.Seq.{get_or-set_other}
use borrow.Author.Tests.{eq-eqb, ne_eqb}
use Rattle.scope.specs.Table.{slot_words, word, base, slot_at}
use Rattle.scope.specs.Tree.{Tree, leaf, node, same, times}
use Rattle.scope.specs.Sound.{Spells}
use Rattle.spelling.proofs.Slots.{words-slot}

pub same_self : (x : ℕ) → same x x ≡ 1
same_self x = ap (λ (b : Bool). cond b 1 0) (eq-eqb x x refl)

-- a slot whose words are those of another table is the slot there
pub slot-words : (t t' : List ℕ) (k : ℕ) → ((f : ℕ) → f < slot_words → word t' (base k + f) ≡ word t (base k + f))
    → slot_at t' k ≡ slot_at t k
slot-words t t' k e =
    let there : ℕ → ℕ = λ f. word t (base k + f) in
    words-slot t' k there e ∙ sym (words-slot t k there (λ f h. refl))

-- a write of any other word leaves the slot
pub slot-set : (t : List ℕ) (i w k : ℕ) → ((f : ℕ) → f < slot_words → base k + f ≡ i → ⊥) → slot_at (set t i w) k ≡ slot_at t k
slot-set t i w k other = slot-words t (set t i w) k (λ f h. get_or-set_other t i (base k + f) w 0 (other f h))

module _ (t t' : List ℕ) (c : ℕ) where
  -- two tables with the same words in a tree's slots spell it both
  pub frame : (x : ℕ) (T : Tree) → ((k : ℕ) → 1 ≤ times k T → slot_at t' k ≡ slot_at t k) → Spells t c x T
      → Spells t' c x T
  unfolding Spells times
  frame x leaf h p = p
  frame x (node d a b l r) h p =
      let one : same x d.slot ≡ 1 = rw p.holds (same_self x) in
      let e : slot_at t' x ≡ slot_at t x = h x (omega arith) in
      record {
        there = p.there;
        fit = rw e p.fit;
        holds = rw e p.holds;
        lefth = rw e p.lefth;
        righth = rw e p.righth;
        left = rw e (frame (slot_at t x).left l (λ k q. h k (omega arith)) p.left);
        right = rw e (frame (slot_at t x).right r (λ k q. h k (omega arith)) p.right);
      }

-- no tree has slot 0
pub none-at-0 : (t : List ℕ) (c x : ℕ) (T : Tree) → Spells t c x T → times 0 T ≡ 0
unfolding Spells times
none-at-0 t c x leaf p = refl
none-at-0 t c x (node d a b l r) p =
    let here : same 0 d.slot ≡ 0 = rw (p.holds, ne_eqb 0 x (λ e. omega (arith, p.there))) refl in
    omega (arith, none-at-0 t c (slot_at t x).left l p.left, none-at-0 t c (slot_at t x).right r p.right)
