-- How the search for the lowest free slot goes on, and how it ends. Assumes nothing.
use Prim.Native.Nat.{ℕ, suc, ◌+◌, ◌-◌, ◌/◌, ◌%◌, ◌≤◌, ◌<◌}
use mathlib.Core.Path.{◌≡◌, refl, sym, ◌∙◌, ap}
use mathlib.Core.List.{List}
use native.Mathlib.Omega.{arith}
use borrow.Author.Tests.{eq-eqb, ne_eqb}
use lib.ListN.{length}
use Rattle.scope.specs.Table.{head_words, slot_words, word, slot_at}
use Rattle.scope.specs.Post.{free_from, free_slot}
use Rattle.spelling.specs.Ready.{Sized, Free}

-- the slots before k are taken: what is left to search gives the whole answer
pub record FreeSeeking (t : List ℕ) (c k : ℕ) : Type 0 where
  pub first : 1 ≤ k
  pub last : k ≤ c + 1
  pub rest : free_from (c + 1 - k) t k ≡ free_slot t c

free-here : (t : List ℕ) (n m k : ℕ) → n ≡ suc m → (slot_at t k).state ≡ 0 → free_from n t k ≡ k
unfolding free_from
free-here t n m k e z = rw e (simp (eq-eqb _ _ z))

free_on : (t : List ℕ) (n m k : ℕ) → n ≡ suc m → ((slot_at t k).state ≡ 0 → ⊥) → free_from n t k ≡ free_from m t (k + 1)
unfolding free_from
free_on t n m k e z = rw e (simp (ne_eqb (slot_at t k).state 0 z))

free-none : (t : List ℕ) (n k : ℕ) → n ≡ 0 → free_from n t k ≡ 0
unfolding free_from
free-none t n k e = rw e

pub seek-start : (t : List ℕ) (c : ℕ) → FreeSeeking t c 1
unfolding free_slot
seek-start t c = record {
  first = omega arith;
  last = omega arith;
  rest = ap (λ (n : ℕ). free_from n t 1) (omega arith);
}

module _ {t : List ℕ} {c k : ℕ} (so_far : FreeSeeking t c k) where
  pub seek-here : k ≤ c → (slot_at t k).state ≡ 0 → Free t c k
  seek-here le z = record { is = sym (free-here t (c + 1 - k) (c - k) k (omega arith) z) ∙ so_far.rest; most = le }

  pub seek-on : k ≤ c → ((slot_at t k).state ≡ 0 → ⊥) → FreeSeeking t c (k + 1)
  seek-on le z = record {
    first = omega arith;
    last = omega arith;
    rest = sym (free_on t (c + 1 - k) (c + 1 - (k + 1)) k (omega arith) z) ∙ so_far.rest;
  }

  pub seek-end : c < k → Free t c 0
  seek-end lt = record { is = sym (free-none t (c + 1 - k) k (omega arith)) ∙ so_far.rest; most = omega arith }

-- the search at place b, which is the first word of a slot
pub record AtPlace (t : List ℕ) (c b : ℕ) : Type 0 where
  pub seeking : FreeSeeking t c (b / slot_words + 1)
  pub place : b % slot_words ≡ head_words

pub place-start : (t : List ℕ) (c : ℕ) → AtPlace t c head_words
place-start t c = record { seeking = seek-start t c; place = refl }

module _ {t : List ℕ} {c b : ℕ} (z : Sized t c) (a : AtPlace t c b) where
  state-there : (slot_at t (b / slot_words + 1)).state ≡ word t b
  unfolding slot_at
  state-there = ap (word t) (omega (arith, a.place))

  pub place_here : b < length t → word t b ≡ 0 → Free t c (b / slot_words + 1)
  place_here h e = seek-here a.seeking (omega (arith, a.place, z.room)) (state-there ∙ e)

  pub place-on : b < length t → (word t b ≡ 0 → ⊥) → AtPlace t c (b + slot_words)
  place-on h ne =
      let on = seek-on a.seeking (omega (arith, a.place, z.room)) (λ e. ne (sym state-there ∙ e)) in
      let same : b / slot_words + 1 + 1 ≡ (b + slot_words) / slot_words + 1 = omega arith in
      record { seeking = rw same at on; place = omega (arith, a.place) }

  pub place_end : length t ≤ b → Free t c 0
  place_end h = seek-end a.seeking (omega (arith, a.place, z.room))
