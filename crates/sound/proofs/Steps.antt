-- The cases of the scan: the empty link, a slot refused, and a slot entered with its two sides. Assumes nothing.
use Prim.Native.Nat.{ℕ, suc, ◌+◌, ◌-◌, ◌≤◌, ◌<◌}
use mathlib.Core.Path.{◌≡◌, refl, sym, ap, ◌∙◌, subst}
use mathlib.Core.Bool.{Bool, true, false, ◌&&◌}
use mathlib.Core.List.{List}
use native.Mathlib.Omega.{arith}
use lib.Dec.{eqb, ltb}
use borrow.Author.Tests.{ne_eqb, ltb-true, lt-ltb}
use Rattle.scope.proofs.Bools.{and_l, and_r, neither, both}
use Rattle.scope.specs.Table.{slot_at}
use Rattle.scope.specs.Fit.{fit_slot}
use Rattle.scope.specs.Tree.{Batch, Tree, leaf, node, size, same, times}
use Rattle.scope.specs.Sound.{Spells, batch_at}
use Rattle.scope.specs.declared.slot.Slot.{Slot}
use Rattle.spelling.proofs.Laws.{fit-left, fit-right}
use Rattle.marks.specs.Marks.{bit_at, Marked}
use Rattle.marks.proofs.Laws.{bit-small, unmarked, adds}
use Rattle.sound.specs.Scan.{in_place, Welcome, EnteredSlot, Fine, Good, Scanned}
use Rattle.tree.specs.Between.{Between}
use Rattle.spelling.proofs.Spell.{topped, unique}
use Rattle.spelling.proofs.Frame.{same_self}
use Rattle.std.specs.Prelude.{Option, Some, None}

-- what a slot in its place tells
pub record PlacedBetween (c : ℕ) (s : Slot) (low high : ℕ) : Type 0 where
  pub fit : fit_slot c s ≡ true
  pub over : low < s.key
  pub under : s.key < high

pub placed-between : (c : ℕ) (s : Slot) (low high : ℕ) → in_place c s low high ≡ true → PlacedBetween c s low high
unfolding in_place
placed-between c s low high e =
    let p = and_l (fit_slot c s && ltb low s.key) _ e in
    record {
      fit = and_l _ _ p;
      over = ltb-true _ _ (and_r (fit_slot c s) _ p);
      under = ltb-true _ _ (and_r (fit_slot c s && ltb low s.key) _ e);
    }

in_place_lem : (c : ℕ) (s : Slot) (low high : ℕ) → PlacedBetween c s low high → in_place c s low high ≡ true
unfolding in_place
in_place_lem c s low high p = both (both p.fit (lt-ltb _ _ p.over)) (lt-ltb _ _ p.under)

-- what the tests of a slot tell, with their results a and b: it was reached before, is out of place, or is entered
module _ {t m : List ℕ} {c x low high : ℕ} {a : Bool} (ea : a ≡ eqb (bit_at m x) 1) where
  pub twice : a ≡ true → Welcome t m c x low high → ⊥
  twice p w = neither (sym ea ∙ p) (ne_eqb (bit_at m x) 1 (λ e. omega (arith, w.free)))

  module _ {b : Bool} {s : Slot} (es : s ≡ slot_at t x) (eb : b ≡ in_place c s low high) where
    pub misplaced : b ≡ false → Welcome t m c x low high → ⊥
    misplaced p w = neither w.place (ap (λ (v : Slot). in_place c v low high) (sym es) ∙ sym eb ∙ p)

    pub slot-entered : {m' : List ℕ} {k : ℕ} → a ≡ false → b ≡ true → Marked m x m'
        → k ≡ s.key → EnteredSlot t m m' c x low high s.left s.right k
    slot-entered p q mark k = record {
      welcome = record {
        free = unmarked m x (sym ea ∙ p);
        place = ap (λ (v : Slot). in_place c v low high) (sym es) ∙ sym eb ∙ q;
      };
      mark = mark;
      left = cc;
      right = cc;
      key = cc;
    }

-- a slot that was entered is in its place, and its links lead into the table
module _ {t m m' : List ℕ} {c x low high l r k : ℕ} (o : EnteredSlot t m m' c x low high l r k) where
  here : PlacedBetween c (slot_at t x) low high
  here = placed-between c (slot_at t x) low high o.welcome.place

  pub left_in : l ≤ c
  left_in = omega (arith, o.left, fit-left c (slot_at t x) here.fit)

  pub right-in : r ≤ c
  right-in = omega (arith, o.right, fit-right c (slot_at t x) here.fit)

-- what a tree at slot x says of the slot and of its two sides
pub record Parts (t m : List ℕ) (c x low high : ℕ) (l r : Tree) : Type 0 where
  pub place : PlacedBetween c (slot_at t x) low high
  pub left : Spells t c (slot_at t x).left l
  pub right : Spells t c (slot_at t x).right r
  pub keys_left : Between low (slot_at t x).key l
  pub keys_right : Between (slot_at t x).key high r
  pub free : (k : ℕ) → k < 4096 → bit_at m k + (same k x + (times k l + times k r)) ≤ 1

module _ (t m : List ℕ) (c x low high : ℕ) where
  parts_at : (a b : ℕ) (l r : Tree) → Fine t m c x low high (node (batch_at t x) a b l r) → Parts t m c x low high l r
  unfolding Spells Between times
  parts_at a b l r f = record {
    place = record { fit = f.reached.fit; over = f.keys.0; under = f.keys.1 };
    left = f.reached.left;
    right = f.reached.right;
    keys_left = f.keys.2;
    keys_right = f.keys.3;
    free = f.free;
  }

  top-holds : {d : Batch} {a b : ℕ} {l r : Tree} → Fine t m c x low high (node d a b l r) → d ≡ batch_at t x
  unfolding Spells
  top-holds f = f.reached.holds

  -- a tree at slot x is taken apart
  pub taken-apart : (T : Tree) → 1 ≤ x → Fine t m c x low high T
      → (l : Tree) × (r : Tree) × Parts t m c x low high l r × (size T ≡ suc (size l + size r))
  unfolding Spells size
  taken-apart leaf p f = absurd (omega (arith, f.reached))
  taken-apart (node d a b l r) p f =
      (l, r, parts_at a b l r (subst (λ (e : Batch). Fine t m c x low high (node e a b l r)) (top-holds f) f), refl)

  -- and put together
  together : (l r : Tree) → 1 ≤ x → Parts t m c x low high l r → Fine t m c x low high (topped t c x l r)
  unfolding Spells Between times
  together l r p q = record {
    reached = record {
      there = p;
      fit = q.place.fit;
      holds = refl;
      lefth = refl;
      righth = refl;
      left = q.left;
      right = q.right;
    };
    keys = (q.place.over, q.place.under, q.keys_left, q.keys_right);
    free = q.free;
  }

  welcome : (l r : Tree) → x < 4096 → Parts t m c x low high l r → Welcome t m c x low high
  welcome l r h q = record {
    free = omega (arith, q.free x h, same_self x);
    place = in_place_lem c (slot_at t x) low high q.place;
  }

  -- the empty link
  pub at_end : (more : ℕ) → x ≡ 0 → Good t m m c more x low high more
  unfolding Spells Between times size
  at_end more e = record {
    tree = leaf;
    fine = record { reached = e; keys = tt; free = λ k h. omega (arith, bit-small m k) };
    used = omega arith;
    marked = λ k h. omega arith;
  }

  module _ (more : ℕ) (p : 1 ≤ x) (h : x < 4096) where
    -- no slot may be reached any more
    pub room-spent : more ≡ 0 → (T : Tree) → Fine t m c x low high T → size T ≤ more → ⊥
    room-spent e T f s = omega (arith, (taken-apart T p f).3)

    -- the slot is refused
    pub slot-refused : (Welcome t m c x low high → ⊥) → (T : Tree) → Fine t m c x low high T → size T ≤ more → ⊥
    slot-refused none' T f s = let (L, R, q, e) = taken-apart T p f in none' (welcome L R h q)

    module _ (m₁ : List ℕ) (l r k : ℕ) (o : EnteredSlot t m m₁ c x low high l r k) where
      -- the left side, as the scan of it finds it
      left-fine : (L R : Tree) → Parts t m c x low high L R → Fine t m₁ c l low k L
      left-fine L R q = record {
        reached = rw o.left q.left;
        keys = rw o.key q.keys_left;
        free = λ j hj. omega (arith, adds o.mark o.welcome.free j hj, q.free j hj);
      }

      pub left-refused : ((T : Tree) → Fine t m₁ c l low k T → size T ≤ more - 1 → ⊥)
          → (T : Tree) → Fine t m c x low high T → size T ≤ more → ⊥
      left-refused none' T f s = let (L, R, q, e) = taken-apart T p f in none' L (left-fine L R q) (omega arith)

      module _ (m₂ m₃ : List ℕ) (n : ℕ) (g : Good t m₁ m₂ c (more - 1) l low k n) (pos : 1 ≤ more) where
        right-refused : ((T : Tree) → Fine t m₂ c r k high T → size T ≤ n → ⊥)
            → (T : Tree) → Fine t m c x low high T → size T ≤ more → ⊥
        right-refused none' T f s =
            let (L, R, q, e) = taken-apart T p f in
            let one : L ≡ g.tree = unique t c c l L g.tree (left-fine L R q).reached g.fine.reached in
            none' R
            (record {
              reached = rw o.right q.right;
              keys = rw o.key q.keys_right;
              free = λ j hj.
                  omega (arith, adds o.mark o.welcome.free j hj, q.free j hj, g.marked j hj, ap (times j) one);
            })
            (omega (arith, ap size one, g.used))

        both-good : (n₃ : ℕ) → Good t m₂ m₃ c n r k high n₃ → Good t m m₃ c more x low high n₃
        unfolding times size
        both-good n₃ g₂ = record {
          tree = topped t c x g.tree g₂.tree;
          fine = together g.tree g₂.tree p
              (record {
                place = here o;
                left = rw (sym o.left) g.fine.reached;
                right = rw (sym o.right) g₂.fine.reached;
                keys_left = rw (sym o.key) g.fine.keys;
                keys_right = rw (sym o.key) g₂.fine.keys;
                free = λ j hj.
                    omega (arith, adds o.mark o.welcome.free j hj, g.marked j hj, g₂.fine.free j hj);
              });
          used = omega (arith, g.used, g₂.used);
          marked = λ j hj. omega (arith, adds o.mark o.welcome.free j hj, g.marked j hj, g₂.marked j hj);
        }

        -- after both sides
        pub right-part : (res : Option ℕ) → Scanned t m₂ m₃ c n r k high res → Scanned t m m₃ c more x low high res
        right-part None none' = right-refused none'
        right-part (Some n₃) g₂ = both-good n₃ g₂
