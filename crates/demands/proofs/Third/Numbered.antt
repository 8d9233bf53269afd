-- A tree whose slots are numbered from left to right has each of them once, and no other. Assumes nothing.
use Prim.Native.Nat.{ℕ, suc, ◌+◌, ◌≤◌, ◌<◌}
use mathlib.Core.Path.{◌≡◌, refl, ap}
use native.Mathlib.Omega.{arith}
use native.Mathlib.Decide.{dec_le, ℕ_discrete}
use Rattle.scope.specs.Tree.{Batch, Tree, leaf, node, size, times}
use Rattle.tree.proofs.Firing.Place.{same_none}
use Rattle.tree.proofs.Shown.Sharp.{SlotsNumbered}
use Rattle.bridge.proofs.Links.Outside.{same-one}

-- the slot at the top
pub slot_is : (k : ℕ) (d : Batch) (a b : ℕ) (l r : Tree) → SlotsNumbered k (node d a b l r) → d.slot ≡ suc (k + size l)
slot_is k d a b l r n = ap (λ (x : Batch). x.slot) n.0

-- a slot before its first or after its last it does not have
pub before-none : (T : Tree) (k j : ℕ) → SlotsNumbered k T → j ≤ k → times j T ≡ 0
unfolding times
before-none leaf k j n h = refl
before-none (node d a b l r) k j n h =
    omega (
      arith,
      same_none j d.slot (λ e. omega (arith, slot_is k d a b l r n)),
      before-none l k j n.1 h,
      before-none r (suc (k + size l)) j n.2 (omega arith),
    )

pub after_none : (T : Tree) (k j : ℕ) → SlotsNumbered k T → k + size T < j → times j T ≡ 0
unfolding times size
after_none leaf k j n h = refl
after_none (node d a b l r) k j n h =
    omega (
      arith,
      same_none j d.slot (λ e. omega (arith, slot_is k d a b l r n)),
      after_none l k j n.1 (omega arith),
      after_none r (suc (k + size l)) j n.2 (omega arith),
    )

-- one between it has once
pub between-once : (T : Tree) (k j : ℕ) → SlotsNumbered k T → k < j → j ≤ k + size T → times j T ≡ 1
unfolding times size
between-once leaf k j n g h = absurd (omega arith)
between-once (node d a b l r) k j n g h =
    let s = slot_is k d a b l r n in
    elim (dec_le j (k + size l)) [
      | yes low ↦ omega (
        arith,
        same_none j d.slot (λ e. omega arith),
        between-once l k j n.1 g low,
        before-none r (suc (k + size l)) j n.2 (omega arith),
      )
      | no high ↦ elim (ℕ_discrete j d.slot) [
        | yes e ↦ omega (
          arith,
          same-one j d.slot e,
          after_none l k j n.1 (omega arith),
          before-none r (suc (k + size l)) j n.2 (omega arith),
        )
        | no ne ↦ omega (
          arith,
          same_none j d.slot ne,
          after_none l k j n.1 (omega arith),
          between-once r (suc (k + size l)) j n.2 (omega arith) (omega arith),
        )
      ]
    ]

-- so a slot that it has lies there
pub within-slots : (T : Tree) (k j : ℕ) → SlotsNumbered k T → 1 ≤ times j T → (k < j) × (j ≤ k + size T)
within-slots T k j n h =
    elim (dec_le j k) [
      | yes low ↦ absurd (omega (arith, before-none T k j n low))
      | no high ↦ elim (dec_le j (k + size T)) [
        | yes le ↦ (omega arith, le)
        | no gt ↦ absurd (omega (arith, after_none T k j n (omega arith)))
      ]
    ]
