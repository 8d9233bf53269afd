-- The pass over a sound table under way: the links of the slots before k are noted. Assumes nothing.
use Prim.Native.Nat.{ℕ, ◌+◌, ◌*◌, ◌≤◌, ◌<◌}
use mathlib.Core.Path.{◌≡◌, ◌∙◌}
use mathlib.Core.List.{List}
use native.Mathlib.Omega.{arith}
use native.Mathlib.Decide.{ℕ_discrete}
use lib.ListN.{length, get_or, set, length-set}
use lib.Seq.{get_or-set_same, get_or-set_other}
use Rattle.scope.specs.Table.{word, root_word, slot_at}
use Rattle.scope.specs.declared.side.Side.TheVariants.{Left, Right}
use Rattle.spelling.specs.Whole.{Whole}
use Rattle.spelling.proofs.Laws.{in_table, header-root}
use Rattle.tidy_holders.specs.Codes.{link_for, link_number, held_at}
use Rattle.tidy_holders.specs.Holds.{CodeIn, AllNoted, Sons, sons_noted}
use Rattle.tidy_holders.proofs.Noting.Links.{son-in, held-root, held-son, held-most, one_code}

-- every link of a number below n is noted
pub record Filled (t : List ℕ) (c : ℕ) (h : List ℕ) (n : ℕ) : Type 0 where
  pub room : length h ≡ 4096
  pub is : (q : ℕ) → CodeIn c q → q < n → 1 ≤ held_at t q → get_or h (held_at t q) 0 ≡ q

module _ {t : List ℕ} {c : ℕ} (w : Whole t c) where
  -- the next link is noted; the slots noted before it hang elsewhere
  next : {h : List ℕ} (n : ℕ) → CodeIn c n → Filled t c h n → length (set h (held_at t n) n) ≡ 4096
      → Filled t c (set h (held_at t n) n) (n + 1)
  next {h} n i f len = record {
    room = len;
    is = λ q j l o. elim (ℕ_discrete q n) [
      | yes e ↦ rw e (get_or-set_same h (held_at t n) n 0 (omega (arith, f.room, held-most w n i, w.sized.most)))
      | no ne ↦ get_or-set_other h (held_at t n) (held_at t q) n 0 (λ e. ne (one_code w q n j i e o))
          ∙ f.is q j (omega arith) o
    ];
  }

  same-to : {h : List ℕ} (m n : ℕ) → m ≡ n → Filled t c h m → Filled t c h n
  same-to m n e f = rw (← e) f

  -- both links of slot k
  pair : {h : List ℕ} (k : ℕ) → 1 ≤ k → k ≤ c → Filled t c h (2 * k)
      → length (set h (held_at t (link_number (link_for k Left))) (link_number (link_for k Left))) ≡ 4096
      → length (sons_noted t k h) ≡ 4096 → Filled t c (sons_noted t k h) (2 * (k + 1))
  unfolding sons_noted link_number
  pair {h} k i j f a b =
      let l = link_number (link_for k Left) in
      let r = link_number (link_for k Right) in
      let one = next l (son-in k Left i j) (same-to (2 * k) l (omega arith) f) a in
      let el : held_at t l ≡ (slot_at t k).left = held-son t k Left i in
      let er : held_at t r ≡ (slot_at t k).right = held-son t k Right i in
      let len : length (set (set h (held_at t l) l) (held_at t r) r) ≡ 4096 = rw (el, er) b in
      let two = next r (son-in k Right i j) (same-to (l + 1) r (omega arith) one) len in
      same-to (r + 1) (2 * (k + 1)) (omega arith) (rw (el, er) at two)

pub root-most : {t : List ℕ} {c : ℕ} → Whole t c → word t root_word ≤ 4095
root-most {t} {c} w = omega (arith, header-root c t w.sound.header, w.sized.most)

-- a sound table's slot k
module _ {t : List ℕ} {c : ℕ} (w : Whole t c) where
  pub filled-start : (h : List ℕ) {h' : List ℕ} {x : ℕ} → x ≡ word t root_word → length h ≡ 4096
      → h' ≡ set h x (link_number (link_for 0 Left)) → Filled t c h' 2
  unfolding link_number
  filled-start h {h'} {x} e room is = record {
    room = rw is (length-set h x 0 ∙ room);
    is = λ q i l o.
        let z : q ≡ 0 = omega (arith, i.proper) in
        rw (z, held-root t, is, e) (get_or-set_same h (word t root_word) 0 0 (omega (arith, root-most w, room)));
  }

  module _ {k : ℕ} (first : 1 ≤ k) (most : k ≤ c) where
    pub sons-in : Sons t k
    sons-in =
        let l = rw (held-son t k Left first) at (held-most w _ (son-in k Left first most)) in
        let r = rw (held-son t k Right first) at (held-most w _ (son-in k Right first most)) in
        record {
          table = in_table k w.sized first most;
          most = omega (arith, w.sized.most);
          left = omega (arith, w.sized.most);
          right = omega (arith, w.sized.most);
        }

    pub filled-on : {h h' : List ℕ} → Filled t c h (2 * k) → h' ≡ sons_noted t k h → Filled t c h' (2 * (k + 1))
    unfolding sons_noted
    filled-on {h} f is = rw is (pair w k first most f (length-set h _ _ ∙ f.room) (simp length-set f.room))

pub filled-end : {t : List ℕ} {c : ℕ} {h : List ℕ} {k : ℕ} → Filled t c h (2 * k) → c < k → AllNoted t c h
filled-end f l = record { is = λ q i o. f.is q i (omega (arith, i.most)) o }
