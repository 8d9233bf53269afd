-- What edits in the slots of a tree leave outside it. Assumes nothing.
use Prim.Native.Nat.{ℕ, ◌≤◌}
use mathlib.Core.Path.{◌≡◌, refl, sym, ◌∙◌, ap}
use mathlib.Core.Bool.{cond}
use mathlib.Core.List.{List, [], ◌∷◌}
use native.Mathlib.Omega.{arith}
use native.Mathlib.Decide.{ℕ_discrete, dec_le}
use lib.Dec.{eqb}
use borrow.Author.Tests.{eq-eqb, ne_eqb}
use Rattle.scope.specs.Table.{word, root_word, slot_at, link_at}
use Rattle.scope.specs.Tree.{Tree, times, same}
use Rattle.scope.specs.Sound.{Spells}
use Rattle.scope.specs.declared.side.Link.{Link}
use Rattle.scope.specs.declared.slot.Slot.{Slot}
use Rattle.spelling.proofs.Frame.{frame, none-at-0}
use Rattle.spelling.proofs.Laws.{link-son}
use Rattle.scope.specs.Edits.{son_on, Edit, edit}
use Rattle.bridge.specs.Edit.{edited, rooted}
use Rattle.bridge.specs.Below.{slot_relinked}
use Rattle.bridge.proofs.Links.Edited.{EditsInside, Rewritten}
use Rattle.bridge.proofs.Links.Looks.{same-son}

pub same-one : (j k : ℕ) → j ≡ k → same j k ≡ 1
same-one j k e = simp (eq-eqb j k e)

-- slots are counted from 1
pub first_slot : (t : List ℕ) (c x : ℕ) (T : Tree) → Spells t c x T → (k : ℕ) → 1 ≤ times k T → 1 ≤ k
first_slot t c x T p k h =
    elim (dec_le 1 k) [
      | yes i ↦ i
      | no i ↦ let z : k ≡ 0 = omega arith in absurd (omega (arith, none-at-0 t c x T p, ap (λ (y : ℕ). times y T) z))
    ]

-- slot k is none of those that are edited
abbrev pub Away : ℕ → List Edit → Type 0
Away k [] = Unit {0}
Away k (e ∷ es) = (k ≡ e.slot → ⊥) × Away k es

pub edited-away : (k : ℕ) (es : List Edit) (y : Slot) → Away k es → edited es k y ≡ y
unfolding edited
edited-away k [] y a = refl
edited-away k (e ∷ es) y a = rw (ne_eqb k e.slot a.0) (edited-away k es y a.1)

-- slot k of a table of c stands in the tree S; so do all that are edited
pub record StandsIn (c : ℕ) (S : Tree) (k : ℕ) : Type 0 where
  pub first : 1 ≤ k
  pub most : k ≤ c
  pub once : 1 ≤ times k S

abbrev pub InTree : ℕ → Tree → List Edit → Type 0
InTree c S [] = Unit {0}
InTree c S (e ∷ es) = StandsIn c S e.slot × InTree c S es

module _ (c : ℕ) (S : Tree) where
  pub in-inside : (es : List Edit) → InTree c S es → EditsInside c es
  in-inside [] i = tt
  in-inside (e ∷ es) i = (i.0.most, in-inside es i.1)

  in-away : (k : ℕ) → times k S ≡ 0 → (es : List Edit) → InTree c S es → Away k es
  in-away k z [] i = tt
  in-away k z (e ∷ es) i = (λ q. omega (arith, i.0.once, ap (λ (j : ℕ). times j S) q), in-away k z es i.1)

  in-rooted : (x : ℕ) (es : List Edit) → InTree c S es → rooted es x ≡ x
  unfolding rooted
  in-rooted x [] i = refl
  in-rooted x (e ∷ es) i = rw (ne_eqb e.slot 0 (λ q. omega (arith, i.0.first))) (in-rooted x es i.1)

-- a link that takes the number it has leaves everything
module _ (t : List ℕ) (l : Link) where
  pub steady : (k : ℕ) → 1 ≤ k → slot_at t k ≡ slot_relinked l (word t (link_at l)) k (slot_at t k)
  steady k i =
      elim (ℕ_discrete k l.holder) [
        | yes e ↦ rw (eq-eqb k l.holder e)
            (ap (λ (j : ℕ). slot_at t j) e ∙ sym (rw (link-son t l (omega arith), e) (same-son l.side (slot_at t l.holder))))
        | no ne ↦ rw (ne_eqb k l.holder ne)
      ]

  pub steady-root : word t root_word ≡ cond (eqb l.holder 0) (word t (link_at l)) (word t root_word)
  unfolding link_at
  steady-root =
      elim (ℕ_discrete l.holder 0) [
        | yes e ↦ rw (eq-eqb l.holder 0 e)
        | no ne ↦ rw (ne_eqb l.holder 0 ne)
      ]

module _ {t t' : List ℕ} {c : ℕ} (S : Tree) where
  -- outside S the edits below a link are those of the link
  module _ (l : Link) (top : ℕ) (es : List Edit) (i : InTree c S es)
      (r : Rewritten t t' c (edit l.holder (son_on l.side) top ∷ es)) where
    pub outside-slots : (k : ℕ) → 1 ≤ k → times k S ≡ 0 → slot_at t' k ≡ slot_relinked l top k (slot_at t k)
    unfolding edited
    outside-slots k h z = r.slots k h ∙ edited-away k es _ (in-away c S k z es i)

    pub outside-root : word t' root_word ≡ cond (eqb l.holder 0) top (word t root_word)
    unfolding rooted
    outside-root = r.root ∙ in-rooted c S _ es i

  module _ (es : List Edit) (i : InTree c S es) (r : Rewritten t t' c es) where
    pub left-slots : (k : ℕ) → 1 ≤ k → times k S ≡ 0 → slot_at t' k ≡ slot_at t k
    left-slots k h z = r.slots k h ∙ edited-away k es _ (in-away c S k z es i)

    pub left-root : word t' root_word ≡ word t root_word
    left-root = r.root ∙ in-rooted c S _ es i

-- a tree that has none of the slots stays
pub stays : {t t' : List ℕ} {c : ℕ} (es : List Edit) → Rewritten t t' c es → (x : ℕ) (X : Tree)
    → ((k : ℕ) → 1 ≤ times k X → Away k es)
    → Spells t c x X → Spells t' c x X
stays {t} {t'} {c} es r x X away p =
    frame t t' c x X (λ k h. r.slots k (first_slot t c x X p k h) ∙ edited-away k es _ (away k h)) p
