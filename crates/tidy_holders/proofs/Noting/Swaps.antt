-- Some links take each other's slots, and each slot is noted where it hangs then. Assumes nothing.
use Prim.Native.Nat.{ℕ, ◌≤◌}
use mathlib.Core.Path.{◌≡◌, refl, sym, ◌∙◌, ap}
use mathlib.Core.Bool.{cond}
use mathlib.Core.List.{List, [], ◌∷◌}
use native.Mathlib.Decide.{ℕ_discrete}
use lib.Dec.{eqb}
use borrow.Author.Tests.{eq-eqb, ne_eqb}
use Rattle.tidy_holders.specs.Holds.{CodeIn}

-- link `at` takes the slot that hung at link `from`
pub record Move : Type 0 where
  pub at : ℕ
  pub from : ℕ

abbrev pub takes : ℕ → ℕ → Move
takes a b = record { at = a; from = b }

-- none of them takes at q, or from q; each link of the table gives its slot once
abbrev pub NotAt : ℕ → List Move → Type 0
NotAt q [] = Unit {0}
NotAt q (m ∷ ms) = (q ≡ m.at → ⊥) × NotAt q ms

abbrev pub NotFrom : ℕ → List Move → Type 0
NotFrom q [] = Unit {0}
NotFrom q (m ∷ ms) = (q ≡ m.from → ⊥) × NotFrom q ms

abbrev pub Once : ℕ → List Move → Type 0
Once c [] = Unit {0}
Once c (m ∷ ms) = CodeIn c m.from × NotFrom m.from ms × Once c ms

-- f says what hangs at a link and h where a slot hangs; the first move that fits counts
module _ (c : ℕ) (f h : ℕ → ℕ) where
  unfoldable pub after_moves : List Move → ℕ → ℕ
  after_moves [] q = f q
  after_moves (m ∷ ms) q = cond (eqb q m.at) (f m.from) (after_moves ms q)

  unfoldable pub told : List Move → ℕ → ℕ
  told [] k = h k
  told (m ∷ ms) k = cond (eqb k (f m.from)) m.at (told ms k)

  module _ (is : (q : ℕ) → CodeIn c q → 1 ≤ f q → h (f q) ≡ q) where
    one : (p q : ℕ) → CodeIn c p → CodeIn c q → 1 ≤ f p → f p ≡ f q → p ≡ q
    one p q i j l e = sym (is p i l) ∙ ap h e ∙ is q j (rw (← e) l)

    -- x hung at a link other than b
    record Source (b x : ℕ) : Type 0 where
      link : ℕ
      in_table : CodeIn c link
      other : link ≡ b → ⊥
      here : x ≡ f link

    source : (ms : List Move) (q b : ℕ) → CodeIn c q → Once c ms → NotFrom b ms → (NotAt q ms → q ≡ b → ⊥)
        → Source b (after_moves ms q)
    unfolding after_moves
    source [] q b i a n o = record { link = q; in_table = i; other = o tt; here = refl }
    source (m ∷ ms) q b i a n o =
        elim (ℕ_discrete q m.at) [
          | yes e ↦ rw (eq-eqb q m.at e)
              (record { link = m.from; in_table = a.0; other = λ z. n.0 (sym z); here = refl })
          | no ne ↦ rw (ne_eqb q m.at ne) (source ms q b i a.2 n.1 (λ k. o (ne, k)))
        ]

    -- EACH SLOT IS NOTED WHERE IT HANGS AFTER THE MOVES
    pub told-after : (ms : List Move) → Once c ms → (q : ℕ) → CodeIn c q → (NotAt q ms → NotFrom q ms)
        → 1 ≤ after_moves ms q → told ms (after_moves ms q) ≡ q
    unfolding after_moves told
    told-after [] a q i o l = is q i l
    told-after (m ∷ ms) a q i o l =
        elim (ℕ_discrete q m.at) [
          | yes e ↦ rw (eq-eqb q m.at e, eq-eqb (f m.from) (f m.from) refl) (sym e)
          | no ne ↦
              let pos : 1 ≤ after_moves ms q = rw (ne_eqb q m.at ne) at l in
              let s = source ms q m.from i a.2 a.1 (λ k. (o (ne, k)).0) in
              let apart : after_moves ms q ≡ f m.from → ⊥ =
              λ e. s.other (one s.link m.from s.in_table a.0 (rw (← s.here) pos) (sym s.here ∙ e)) in
              rw (ne_eqb q m.at ne, ne_eqb (after_moves ms q) (f m.from) apart)
              (told-after ms a.2 q i (λ k. (o (ne, k)).1) pos)
        ]
