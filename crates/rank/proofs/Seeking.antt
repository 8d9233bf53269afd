-- The rank at a slot, from the ranks on its two sides. Assumes nothing.
use Prim.Native.Nat.{ℕ, ◌+◌, ◌-◌, ◌≤◌, ◌<◌}
use mathlib.Core.Path.{◌≡◌, refl, sym, ap, ◌∙◌}
use mathlib.Core.List.{List, [], ◌∷◌, ◌++◌}
use native.Mathlib.Decide.{dec_le}
use native.Mathlib.Omega.{arith}
use Rattle.scope.specs.Tree.{Tree, size, in_order}
use Rattle.scope.specs.Table.{word, root_word, count_word}
use Rattle.scope.specs.Sound.{batch_at, tree_in}
use Rattle.spelling.specs.Whole.{Whole}
use Rattle.spelling.proofs.Spell.{tree-in}
use Rattle.scope.specs.Sums.{slots_in_order, pick, rank_of}
use Rattle.std.specs.declared.ops.ControlFlow.{ControlFlow}
use Rattle.std.specs.declared.ops.ControlFlow.TheVariants.{Continue, Break}
use Rattle.fork.specs.declared.Fork.{Fork}
use Rattle.fork.specs.Hangs.{Says, Forked}
use Rattle.rank.specs.Ranks.{Seeks}
use Rattle.fork.proofs.Down.{said_at, at_leaf, says-leaf, says-fork}
use Rattle.fork.proofs.Order.{order-node, order-size}
use Rattle.rank.proofs.Pick.{after_rank, pick-past, past_is}
use Rattle.rank.proofs.Pick.{pick-left, pick-here, pick-after}
use Rattle.std.specs.Prelude.{Result, Ok, Err}

-- no slot hangs at the empty link
pub rank-leaf : (t : List ℕ) (x w : ℕ) → 1 ≤ w → x ≡ 0 → Seeks t x w (Continue w)
unfolding rank_of in_order
rank-leaf t x w pos e = record {
  most = omega arith;
  says = λ c T p. ap Err (omega arith) ∙ sym (pick-past w [] (omega arith)) ∙ says-leaf t x (rank_of w) e c T p;
}

-- a rank above the number of records
rank-beyond : (r : ℕ) (T : Tree) → size T < r → Err (size T) ≡ rank_of r T
unfolding rank_of
rank-beyond r T h =
    ap Err (sym (order-size T)) ∙ sym (pick-past r (slots_in_order T) (omega (arith, order-size T)))

module _ {t : List ℕ} {more x : ℕ} {f : Fork} (d : Forked t more x f) {r : ℕ} (pos : 1 ≤ r) where
  abbrev L : List ℕ
  L = slots_in_order d.on_left.tree

  abbrev R : List ℕ
  R = slots_in_order d.on_right.tree

  rank-node : {q : (Result ℕ ℕ)} → pick r (L ++ (x ∷ R)) ≡ q → Says t x (rank_of r) q
  unfolding rank_of
  rank-node e =
      let o = order-node (batch_at t x) f.slot.lefth f.slot.righth d.on_left.tree d.on_right.tree in
      says-fork (rank_of r) d (sym e ∙ ap (pick r) (sym o))

  module _ {a : (Result ℕ ℕ)} (sa : Says t f.left (rank_of r) a) where
    on_left : a ≡ pick r L
    unfolding rank_of
    on_left = said_at d.on_left (rank_of r) sa

    rank_left : {k : ℕ} → a ≡ Ok k → Says t x (rank_of r) (Ok k)
    rank_left {k} e = rank-node (pick-left r L x R pos k (sym on_left ∙ e))

    module _ {n : ℕ} (e : a ≡ Err n) where
      rank-here : n + 1 ≡ r → Says t x (rank_of r) (Ok x)
      rank-here i = rank-node (pick-here r L x R pos n (sym on_left ∙ e) i)

      module _ {b : (Result ℕ ℕ)} (sb : Says t f.right (rank_of (r - (n + 1))) b) where
        on_right : b ≡ pick (r - (n + 1)) R
        unfolding rank_of
        on_right = said_at d.on_right (rank_of (r - (n + 1))) sb

        rank-after : (n + 1 ≡ r → ⊥) → {q : (Result ℕ ℕ)} → q ≡ after_rank (n + 1) b → Says t x (rank_of r) q
        rank-after ne eq =
            rank-node (pick-after r L x R pos n (sym on_left ∙ e) ne ∙ ap (after_rank (n + 1)) (sym on_right) ∙ sym eq)

-- what a walk found at a slot
module _ {t : List ℕ} {more x w : ℕ} {f : Fork} (d : Forked t more x f) (pos : 1 ≤ w) where
  pub seek-left : {k : ℕ} → Seeks t f.left w (Break k) → Seeks t x w (Break k)
  seek-left s = record { most = tt; says = rank_left d pos s.says refl }

  module _ {n : ℕ} (s : Seeks t f.left w (Continue n)) where
    -- fewer hang on the left than are wanted
    pub still-wanted : 1 ≤ n
    unfolding rank_of
    still-wanted = omega (arith, past_is w (L d pos) (w - n) (sym (on_left d pos s.says)), s.most)

    pub seek_found : n ≡ 1 → Seeks t x w (Break x)
    seek_found e = record { most = tt; says = rank-here d pos s.says refl (omega (arith, s.most)) }

    module _ (ne : n ≡ 1 → ⊥) where
      same-right : n - 1 ≡ w - (w - n + 1)
      same-right = omega (arith, s.most)

      after : w - n + 1 ≡ w → ⊥
      after i = ne (omega (arith, s.most, i))

      pub seek-right : (found : ControlFlow ℕ ℕ) → Seeks t f.right (n - 1) found → Seeks t x w found
      seek-right (Break k) z = record {
        most = tt;
        says = rank-after d pos s.says refl (rw same-right at z.says) after refl;
      }
      seek-right (Continue q) z =
          let least = still-wanted in
          let most : q ≤ n - 1 = z.most in
          record {
            most = omega (arith, s.most, most, least);
            says = rank-after d pos s.says refl (rw same-right at z.says) after (ap Err (omega (arith, s.most, most, least)));
          }

-- the whole table
module _ {t : List ℕ} {c n : ℕ} (w : Whole t c) (en : n ≡ word t count_word) where
  counts : n ≡ size (tree_in t c)
  counts = cc (en, w.sound.count, ap size (tree-in t c w.sound))

  pub rank-over : {r : ℕ} → n < r → Err n ≡ rank_of r (tree_in t c)
  rank-over {r} lt = ap Err counts ∙ rank-beyond r (tree_in t c) (omega (arith, counts))

  -- a table with records has a root
  pub some-root : {x : ℕ} → x ≡ word t root_word → 1 ≤ n → 1 ≤ x
  unfolding size
  some-root {x} ex pos =
      elim (dec_le 1 x) [
        | yes h ↦ h
        | no h ↦
            let e = at_leaf t c x (omega arith) w.sound.tree (rw ex w.sound.reached) in
            let z : size w.sound.tree ≡ 0 = ap size e in
            absurd (omega (arith, w.sound.count, en))
      ]
