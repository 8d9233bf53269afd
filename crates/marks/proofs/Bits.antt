-- A bit of all the words, after one word was changed. Assumes nothing.
use Prim.Native.Nat.{ℕ, ◌/◌, ◌%◌, ◌^◌, ◌<◌}
use mathlib.Core.Path.{◌≡◌, refl, sym, ap, ◌∙◌, subst}
use mathlib.Core.Bool.{Bool, cond}
use mathlib.Core.List.{List}
use native.Mathlib.Decide.{ℕ_discrete}
use native.Mathlib.Omega.{arith}
use lib.ListN.{length, get_or, set}
use lib.Seq.{get_or-set_same, get_or-set_other}
use lib.Dec.{eqb}
use borrow.Author.Tests.{eq-eqb, ne_eqb}
use Rattle.marks.specs.Marks.{bit_at, BitPut, WordPut}

-- the words with another word for slot k's: x, in which that slot's bit is y and every other bit as it was
pub one_bit : (m : List ℕ) (k x y : ℕ) → k / 64 < length m → x / 2 ^ (k % 64) % 2 ≡ y
    → ((i : ℕ) → i < 64 → (i ≡ k % 64 → ⊥) → x / 2 ^ i % 2 ≡ get_or m (k / 64) 0 / 2 ^ i % 2)
    → (j : ℕ) → bit_at (set m (k / 64) x) j ≡ cond (eqb j k) y (bit_at m j)
unfolding bit_at
one_bit m k x y here same other j = go (ℕ_discrete (j / 64) (k / 64)) (ℕ_discrete (j % 64) (k % 64))
  where
    m' : List ℕ
    m' = set m (k / 64) x

    apart : (j ≡ k → ⊥) → bit_at m' j ≡ bit_at m j → bit_at m' j ≡ cond (eqb j k) y (bit_at m j)
    apart ne e = e ∙ sym (ap (λ (b : Bool). cond b y (bit_at m j)) (ne_eqb j k ne))

    go : Dec (j / 64 ≡ k / 64) → Dec (j % 64 ≡ k % 64) → bit_at m' j ≡ cond (eqb j k) y (bit_at m j)
    go (no f) d =
        apart (λ e. f (ap (λ (x : ℕ). x / 64) e))
        (ap (λ (x : ℕ). x / 2 ^ (j % 64) % 2) (get_or-set_other m (k / 64) (j / 64) x 0 f))
    go (yes e) (no f) =
        apart (λ e. f (ap (λ (x : ℕ). x % 64) e))
        (ap (λ (i : ℕ). get_or m' i 0 / 2 ^ (j % 64) % 2) e
        ∙ ap (λ (x : ℕ). x / 2 ^ (j % 64) % 2) (get_or-set_same m (k / 64) x 0 here)
        ∙ other (j % 64) (omega arith) f
        ∙ ap (λ (i : ℕ). get_or m i 0 / 2 ^ (j % 64) % 2) (sym e))
    go (yes e) (yes f) =
        let one : j ≡ k = omega arith in
        subst (λ (x : ℕ). bit_at m' x ≡ cond (eqb x k) y (bit_at m x)) (sym one)
        (ap (λ (x : ℕ). x / 2 ^ (k % 64) % 2) (get_or-set_same m (k / 64) x 0 here)
        ∙ same ∙ sym (ap (λ (b : Bool). cond b y (bit_at m k)) (eq-eqb k k refl)))

-- the same, said of the words
pub slot-put : {m : List ℕ} {k x y : ℕ} → k < 4096 → length m ≡ 64 → WordPut y (get_or m (k / 64) 0) (k % 64) x
    → BitPut y m k (set m (k / 64) x)
slot-put {m} {k} {x} {y} h len p = record {
  bits = λ j l. one_bit m k x y (omega arith) p.here p.rest j;
  words = λ i ne. get_or-set_other m (k / 64) i x 0 ne;
}
