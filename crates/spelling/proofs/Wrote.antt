-- A slot written whole, and words of the header written: what the slots then are. Assumes nothing.
use Prim.Native.Nat.{ℕ, ◌+◌, ◌≤◌, ◌<◌}
use mathlib.Core.Path.{◌≡◌}
use mathlib.Core.List.{List}
use native.Mathlib.Omega.{arith}
use lib.ListN.{set, length-set}
use Rattle.scope.specs.Table.{head_words, slot_words, word, base, slot_at, with_slot, slot_writes, written}
use Rattle.scope.specs.declared.slot.Slot.{Slot}
use Rattle.spelling.specs.Ready.{Sized}
use Rattle.spelling.proofs.Slots.{each-place, unwritten}
use Rattle.spelling.proofs.Frame.{slot-words, slot-set}

module _ {t : List ℕ} {c : ℕ} (z : Sized t c) (k : ℕ) (s : Slot) (first : 1 ≤ k) (most : k ≤ c) where
  elsewhere : (i : ℕ) → ((f : ℕ) → f < slot_words → i ≡ base k + f → ⊥) → word (with_slot t k s) i ≡ word t i
  unfolding with_slot
  elsewhere i h = unwritten t i (slot_writes k s) (each-place (λ p. i ≡ p → ⊥) k s h)

  pub slot-there : (j : ℕ) → 1 ≤ j → (j ≡ k → ⊥) → slot_at (with_slot t k s) j ≡ slot_at t j
  slot-there j i ne = slot-words t (with_slot t k s) j (λ f h. elsewhere (base j + f) (λ g l e. ne (omega arith)))

  pub slot-head : (i : ℕ) → i < head_words → word (with_slot t k s) i ≡ word t i
  slot-head i h = elsewhere i (λ g l e. omega arith)

  pub slot-sized : Sized (with_slot t k s) c
  unfolding with_slot written
  slot-sized = record { room = simp length-set z.room; some = z.some; most = z.most }

-- a word of the header leaves every slot
pub head-slots : (t : List ℕ) (i x k : ℕ) → i < head_words → 1 ≤ k → slot_at (set t i x) k ≡ slot_at t k
head-slots t i x k h j = slot-set t i x k (λ f l e. omega arith)
