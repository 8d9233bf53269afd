-- The free slots of a sound table: there is one exactly if it has fewer records than slots. Assumes nothing.
use Prim.Native.Nat.{ℕ, zero, suc, ◌+◌, ◌≤◌, ◌<◌}
use mathlib.Core.Path.{◌≡◌, refl, ap}
use mathlib.Core.Bool.{true, false}
use mathlib.Core.List.{List}
use native.Mathlib.Omega.{arith}
use native.Mathlib.Decide.{dec_le, ℕ_discrete}
use lib.Dec.{eqb}
use Rattle.scope.proofs.Bools.{by_bool, neither}
use Rattle.scope.specs.Table.{word, root_word, slot_at}
use Rattle.scope.specs.Fit.{fit_slot}
use Rattle.scope.specs.Tree.{Batch, Tree, leaf, node, size, times, same}
use Rattle.scope.specs.Sound.{Spells}
use Rattle.scope.specs.Post.{free_from, free_slot}
use Rattle.spelling.proofs.Laws.{fits, fit-left, fit-right, header-root}
use Rattle.spelling.specs.Whole.{Whole}
use Rattle.bridge.proofs.Links.Outside.{same-one}
use Rattle.tree.proofs.Firing.Place.{same_none}
use Rattle.bridge.proofs.Firing.Along.{some-state}
use Rattle.spelling.proofs.Slots.{blank-state}

-- a slot that a tree has is fit
pub reached-fit : (t : List ℕ) (c k x : ℕ) (T : Tree) → Spells t c x T → 1 ≤ times k T → fit_slot c (slot_at t k) ≡ true
unfolding Spells times
reached-fit t c k x leaf p h = absurd (omega arith)
reached-fit t c k x (node d a b l r) p h =
    elim (ℕ_discrete k x) [
      | yes e ↦ rw e p.fit
      | no ne ↦
          let at : d.slot ≡ x = ap (λ (e : Batch). e.slot) p.holds in
          let z : same k d.slot ≡ 0 = rw at (same_none k x ne) in
          elim (dec_le 1 (times k l)) [
            | yes i ↦ reached-fit t c k (slot_at t x).left l p.left i
            | no i ↦ reached-fit t c k (slot_at t x).right r p.right (omega arith)
          ]
    ]

-- how often the slots 1 to n stand in a tree, all together
unfoldable up_to : (ℕ → ℕ) → ℕ → ℕ
up_to f zero = 0
up_to f (suc n) = f (suc n) + up_to f n

up_to-sum : (f g h : ℕ → ℕ) → ((k : ℕ) → f k ≡ g k + h k) → (n : ℕ) → up_to f n ≡ up_to g n + up_to h n
unfolding up_to
up_to-sum f g h e zero = omega arith
up_to-sum f g h e (suc n) = omega (arith, e (suc n), up_to-sum f g h e n)

up_to-zero : (n : ℕ) → up_to (λ k. 0) n ≡ 0
unfolding up_to
up_to-zero zero = refl
up_to-zero (suc n) = omega (arith, up_to-zero n)

up_to-none : (j n : ℕ) → n < j → up_to (λ k. same k j) n ≡ 0
unfolding up_to
up_to-none j zero h = refl
up_to-none j (suc n) h = omega (arith, same_none (suc n) j (λ e. omega arith), up_to-none j n (omega arith))

up_to-one : (j n : ℕ) → 1 ≤ j → j ≤ n → up_to (λ k. same k j) n ≡ 1
unfolding up_to
up_to-one j zero i h = absurd (omega arith)
up_to-one j (suc n) i h =
    elim (ℕ_discrete (suc n) j) [
      | yes e ↦ omega (arith, same-one (suc n) j e, up_to-none j n (omega arith))
      | no ne ↦ omega (arith, same_none (suc n) j ne, up_to-one j n i (omega arith))
    ]

-- each record stands in one of the slots
up_to-size : (t : List ℕ) (c x : ℕ) (T : Tree) → x ≤ c → Spells t c x T → up_to (λ k. times k T) c ≡ size T
unfolding Spells times size
up_to-size t c x leaf h p = up_to-zero c
up_to-size t c x (node d a b l r) h p =
    let at : d.slot ≡ x = ap (λ (e : Batch). e.slot) p.holds in
    let own : up_to (λ k. same k d.slot) c ≡ 1 = rw at (up_to-one x c p.there h) in
    omega (
      arith,
      up_to-sum (λ k. times k (node d a b l r)) (λ k. same k d.slot) (λ k. times k l + times k r) (λ k. refl) c,
      up_to-sum (λ k. times k l + times k r) (λ k. times k l) (λ k. times k r) (λ k. refl) c,
      up_to-size t c (slot_at t x).left l (fit-left c (slot_at t x) p.fit).0 p.left,
      up_to-size t c (slot_at t x).right r (fit-right c (slot_at t x) p.fit).0 p.right,
    )

-- a sum of ones and zeros
up_to-most : (f : ℕ → ℕ) (n : ℕ) → ((k : ℕ) → 1 ≤ k → k ≤ n → f k ≤ 1) → up_to f n ≤ n
unfolding up_to
up_to-most f zero h = omega arith
up_to-most f (suc n) h = omega (arith, h (suc n) (omega arith) (omega arith), up_to-most f n (λ k i j. h k i (omega arith)))

up_to-less : (f : ℕ → ℕ) (j n : ℕ) → 1 ≤ j → j ≤ n → f j ≡ 0 → ((k : ℕ) → 1 ≤ k → k ≤ n → f k ≤ 1) → up_to f n < n
unfolding up_to
up_to-less f j zero i l z h = absurd (omega arith)
up_to-less f j (suc n) i l z h =
    elim (ℕ_discrete j (suc n)) [
      | yes e ↦ omega (arith, ap f e, up_to-most f n (λ k a b. h k a (omega arith)))
      | no ne ↦ omega (arith, h (suc n) (omega arith) (omega arith), up_to-less f j n i (omega arith) z (λ k a b. h k a (omega arith)))
    ]

up_to-all : (f : ℕ → ℕ) (n : ℕ) → ((k : ℕ) → 1 ≤ k → k ≤ n → 1 ≤ f k) → n ≤ up_to f n
unfolding up_to
up_to-all f zero h = omega arith
up_to-all f (suc n) h = omega (arith, h (suc n) (omega arith) (omega arith), up_to-all f n (λ k i j. h k i (omega arith)))

-- the lowest free slot from k on, or that there is none
pub data FreeIs (t : List ℕ) (k end : ℕ) : ℕ → Type 0 where
  free : {j : ℕ} → 1 ≤ j → k ≤ j → j < end → eqb (slot_at t j).state 0 ≡ true → FreeIs t k end j
  full : ((j : ℕ) → k ≤ j → j < end → eqb (slot_at t j).state 0 ≡ false) → FreeIs t k end 0

further : (t : List ℕ) (k end j : ℕ) → eqb (slot_at t k).state 0 ≡ false → FreeIs t (k + 1) end j → FreeIs t k end j
further t k end j e (free a b l s) = free a (omega arith) l s
further t k end j e (full h) = full (λ i a b. elim (ℕ_discrete k i) [ yes q ↦ rw (← q) e | no q ↦ h i (omega arith) b ])

free-from : (left : ℕ) (t : List ℕ) (k : ℕ) → 1 ≤ k → FreeIs t k (k + left) (free_from left t k)
unfolding free_from
free-from zero t k h = full (λ j a b. absurd (omega arith))
free-from (suc left) t k h =
    by_bool (eqb (slot_at t k).state 0)
    (λ e. rw e (free h (omega arith) (omega arith) e))
    (λ e. rw e (further t k (k + suc left) (free_from left t (k + 1)) e
    (let same_end : k + 1 + left ≡ k + suc left = omega arith in rw (← same_end) (free-from left t (k + 1) (omega arith)))))

pub free-slot : (t : List ℕ) (c : ℕ) → FreeIs t 1 (1 + c) (free_slot t c)
unfolding free_slot
free-slot t c = free-from c t 1 (omega arith)

module _ {t : List ℕ} {c : ℕ} (w : Whole t c) where
  abbrev T : Tree
  T = w.sound.tree

  sum_is : up_to (λ k. times k T) c ≡ size T
  sum_is = up_to-size t c (word t root_word) T (header-root c t w.sound.header) w.sound.reached

  -- a slot of state 0 is not reached, so it is blank, and the table is not full
  pub unreached : (k : ℕ) → eqb (slot_at t k).state 0 ≡ true → times k T ≡ 0
  unreached k e =
      elim (dec_le 1 (times k T)) [
        | yes h ↦ neither e (some-state _ (fits c (slot_at t k) (reached-fit t c k (word t root_word) T w.sound.reached h)).state)
        | no h ↦ omega arith
      ]

  pub room-left : (k : ℕ) → 1 ≤ k → k ≤ c → times k T ≡ 0 → size T < c
  room-left k i j z = omega (arith, sum_is, up_to-less (λ k. times k T) k c i j z w.sound.once)

  -- with no slot of state 0 it is full
  pub no_room : ((k : ℕ) → 1 ≤ k → k ≤ c → eqb (slot_at t k).state 0 ≡ false) → c ≤ size T
  no_room h =
      omega (
        arith,
        sum_is,
        up_to-all (λ k. times k T) c
            (λ k i j. elim (dec_le 1 (times k T)) [
              | yes p ↦ p
              | no p ↦ neither (blank-state (slot_at t k) (w.sound.rest k i j (omega arith))) (h k i j)
            ]),
      )
