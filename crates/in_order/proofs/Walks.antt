-- The slots at a link listed from those of its two sides. Assumes nothing.
use Prim.Native.Nat.{ℕ, ◌+◌, ◌-◌, ◌≤◌, ◌<◌}
use mathlib.Core.Path.{◌≡◌, sym, ap, ◌∙◌}
use mathlib.Core.List.{List, [], ◌∷◌, ◌++◌, append-nil, append_assoc}
use native.Mathlib.Omega.{arith}
use native.Mathlib.Numerals.{add-one}
use lib.ListN.{length, take, set, length-set}
use lib.Seq.{take-suc-set}
use Rattle.scope.specs.Table.{word, root_word, count_word}
use Rattle.scope.specs.Tree.{Tree, size, in_order}
use Rattle.scope.specs.Sound.{batch_at, tree_in}
use Rattle.scope.specs.Sums.{slots_in_order}
use Rattle.spelling.specs.Whole.{Whole}
use Rattle.spelling.proofs.Laws.{header-count}
use Rattle.spelling.proofs.Spell.{tree-in}
use Rattle.fork.specs.declared.Fork.{Fork}
use Rattle.fork.specs.Hangs.{Forked}
use Rattle.fork.proofs.Down.{sizes, said_at, says-leaf, says-fork, root-hangs, said}
use Rattle.fork.proofs.Order.{order-node}
use Rattle.in_order.specs.Listed.{Roomy, Written, InOrder}

-- nothing is listed at the empty link
pub none-listed : (t list : List ℕ) (x at : ℕ) → x ≡ 0 → Written t list x at list at
unfolding in_order size
none-listed t list x at e = record {
  slots = λ c T p.
      sym (append-nil (take at list)) ∙ says-leaf t x (λ (T : Tree). take at list ++ slots_in_order T) e c T p;
  place = λ c T p. omega arith ∙ says-leaf t x (λ (T : Tree). at + size T) e c T p;
}

module _ {t list : List ℕ} {more x at : ℕ} {f : Fork} (g : Roomy t more x list at) (d : Forked t more x f) where
  pub left-room : Roomy t (more - 1) f.left list at
  left-room = record { hangs = d.on_left; room = omega (arith, g.room, sizes g.hangs d) }

  -- the left side is listed up to the place `here`
  module _ {mid : List ℕ} {here : ℕ} (kept : length mid ≡ length list) (l : Written t list f.left at mid here) where
    abbrev L : List ℕ
    L = slots_in_order d.on_left.tree

    on_left : take here mid ≡ take at list ++ L
    on_left = said_at d.on_left (λ (T : Tree). take at list ++ slots_in_order T) l.slots

    is-here : here ≡ at + size d.on_left.tree
    is-here = said_at d.on_left (λ (T : Tree). at + size T) l.place

    pub has-place : here < length mid
    has-place = omega (arith, g.room, sizes g.hangs d, kept, is-here)

    -- then the slot itself
    pub right-room : Roomy t (more - 1) f.right (set mid here x) (here + 1)
    right-room = record {
      hangs = d.on_right;
      room = omega (arith, g.room, sizes g.hangs d, kept, is-here, length-set mid here x);
    }

    with-slot : take (here + 1) (set mid here x) ≡ (take at list ++ L) ++ (x ∷ [])
    with-slot = rw (add-one here) (take-suc-set mid here x has-place) ∙ ap (λ (k : List ℕ). k ++ (x ∷ [])) on_left

    -- then the right side
    module _ {new : List ℕ} {n : ℕ} (r : Written t (set mid here x) f.right (here + 1) new n) where
      abbrev R : List ℕ
      R = slots_in_order d.on_right.tree

      all : take n new ≡ take at list ++ (L ++ (x ∷ R))
      all =
          said_at d.on_right (λ (T : Tree). take (here + 1) (set mid here x) ++ slots_in_order T) r.slots
          ∙ ap (λ (k : List ℕ). k ++ R) with-slot
          ∙ append_assoc (take at list ++ L) (x ∷ []) R
          ∙ append_assoc (take at list) L (x ∷ R)

      pub listed_here : Written t list x at new n
      unfolding size
      listed_here =
          let o = order-node (batch_at t x) f.slot.lefth f.slot.righth d.on_left.tree d.on_right.tree in
          record {
            slots = says-fork (λ (T : Tree). take at list ++ slots_in_order T) d
                (all ∙ ap (λ (k : List ℕ). take at list ++ k) (sym o));
            place = says-fork (λ (T : Tree). at + size T) d
                (omega (arith, is-here, said_at d.on_right (λ (T : Tree). here + 1 + size T) r.place));
          }

-- the whole table
module _ {t : List ℕ} {c x : ℕ} (w : Whole t c) (ex : x ≡ word t root_word) where
  counted : size (tree_in t c) ≤ c
  counted = omega (arith, ap size (tree-in t c w.sound), w.sound.count, header-count c t w.sound.header)

  pub whole_room : {n : ℕ} {list : List ℕ} → n ≡ word t count_word → c ≤ length list → Roomy t n x list 0
  whole_room en le =
      let h = root-hangs w ex en in
      record { hangs = h; room = omega (arith, h.few, en, header-count c t w.sound.header, le) }

  pub all-in-order : {old new : List ℕ} {n : ℕ} → c ≤ length new → Written t old x 0 new n → InOrder t c new n
  all-in-order {old} le r = record {
    is = said w ex (λ (T : Tree). take 0 old ++ slots_in_order T) r.slots;
    within = omega (arith, said w ex (λ (T : Tree). 0 + size T) r.place, counted, le);
  }
