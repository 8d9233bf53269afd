-- One change below a link after another; and the walk to the leftmost record. Assumes nothing.
use Prim.Native.Nat.{ℕ, zero, suc, ◌≤◌}
use mathlib.Core.Path.{◌≡◌, refl, ◌∙◌, ap}
use mathlib.Core.Bool.{true}
use mathlib.Core.List.{List}
use native.Mathlib.Omega.{arith}
use native.Mathlib.Decide.{ℕ_discrete}
use lib.Dec.{eqb}
use borrow.Author.Tests.{eq-eqb, ne_eqb}
use Rattle.scope.proofs.Bools.{by_bool}
use Rattle.scope.specs.Table.{word, slot_at, son, link_at}
use Rattle.scope.specs.Fit.{fit_slot}
use Rattle.scope.specs.Tree.{Batch, Tree, leaf, node, times, true_height}
use Rattle.scope.specs.Sound.{Spells, batch_at}
use Rattle.scope.specs.Drop.{leftmost_from}
use Rattle.scope.specs.declared.side.Side.{Side}
use Rattle.scope.specs.declared.side.Side.TheVariants.{Left, Right}
use Rattle.scope.specs.declared.side.Link.{Link}
use Rattle.scope.specs.declared.slot.Slot.{Slot}
use Rattle.spelling.proofs.Laws.{fit-left, link-son}
use Rattle.scope.specs.Edits.{son_on}
use Rattle.bridge.specs.Edit.{shape, with_part}
use Rattle.bridge.specs.Below.{Hangs, ChangedBelow}
use Rattle.tree.specs.Without.{least, least_link}
use Rattle.std.specs.Prelude.{Some}

part-son : (s : Side) (n : ℕ) (z : Slot) → son (with_part (son_on s) n z) s ≡ n
unfolding with_part shape
part-son Left n z = refl
part-son Right n z = refl

part-twice : (s : Side) (n m : ℕ) (z : Slot) → with_part (son_on s) n (with_part (son_on s) m z) ≡ with_part (son_on s) n z
unfolding with_part shape
part-twice Left n m z = refl
part-twice Right n m z = refl

module _ {t t' : List ℕ} {c : ℕ} {l : Link} {S S' : Tree} (b : ChangedBelow t t' c l S S')
    (keeps : (k : ℕ) → times k S' ≡ times k S) where
  -- what hangs at the link afterwards
  link-top : times l.holder S ≡ 0 → word t' (link_at l) ≡ b.top
  unfolding link_at
  link-top apart =
      elim (ℕ_discrete l.holder 0) [
        | yes e ↦ rw (eq-eqb l.holder 0 e) (b.root ∙ rw (eq-eqb l.holder 0 e) refl)
        | no ne ↦ link-son t' l (omega arith)
            ∙ ap (λ (z : Slot). son z l.side) (b.slots l.holder (omega arith) apart)
            ∙ rw (eq-eqb l.holder l.holder refl) (part-son l.side b.top (slot_at t l.holder))
      ]

  pub hangs-after : Hangs t c l S → Hangs t' c l S'
  hangs-after h =
      let at = link-top h.apart in
      record {
        sized = b.sized;
        holder = h.holder;
        most = rw at b.most;
        spells = rw at b.spells;
        once = λ k. rw (keeps k) (h.once k);
        apart = rw (keeps l.holder) h.apart;
      }

  -- and a second change there
  pub below_then : {t₂ : List ℕ} {S₂ : Tree} → ChangedBelow t' t₂ c l S' S₂ → ChangedBelow t t₂ c l S S₂
  below_then a =
      record {
        sized = a.sized;
        top = a.top;
        first = a.first;
        most = a.most;
        spells = a.spells;
        slots = λ k i z. a.slots k i (keeps k ∙ z)
            ∙ by_bool (eqb k l.holder)
            (λ e. rw (b.slots k i z, e) (part-twice l.side a.top b.top (slot_at t k)))
            (λ e. rw (b.slots k i z, e) refl);
        root = a.root ∙ by_bool (eqb l.holder 0) (λ e. rw e refl) (λ e. rw (b.root, e) refl);
        head = λ i j k. a.head i j k ∙ b.head i j k;
      }

-- the leftmost record stands in a fit slot of the table
pub record LeastStands (t : List ℕ) (c : ℕ) (m : Batch) : Type 0 where
  pub first : 1 ≤ m.slot
  pub most : m.slot ≤ c
  pub fit : fit_slot c (slot_at t m.slot) ≡ true
  pub holds : m ≡ batch_at t m.slot

pub least-stands : (t : List ℕ) (c x : ℕ) (d : Batch) (a b : ℕ) (l r : Tree) → x ≤ c → Spells t c x (node d a b l r)
    → LeastStands t c (least d l)
unfolding Spells least
least-stands t c x d a b leaf r h p =
    rw p.holds (record { first = p.there; most = h; fit = p.fit; holds = refl })
least-stands t c x d a b (node e u v l m) r h p =
    least-stands t c (slot_at t x).left e u v l m (fit-left c (slot_at t x) p.fit).0 p.left

-- and the walk finds it
pub least-walk : (t : List ℕ) (c more x : ℕ) (k : Link) (d : Batch) (a b : ℕ) (l r : Tree)
    → true_height (node d a b l r) ≤ more → Spells t c x (node d a b l r)
    → leftmost_from more t c x k ≡ Some (record { slot = (least d l).slot; link = (least_link k d l) })
unfolding Spells least least_link leftmost_from true_height
least-walk t c zero x k d a b l r h p = absurd (omega arith)
least-walk t c (suc more) x k d a b leaf r h p =
    rw (p.fit, p.left, p.holds) refl
least-walk t c (suc more) x k d a b (node e u v l m) r h p =
    let at : d.slot ≡ x = ap (λ (e : Batch). e.slot) p.holds in
    rw (p.fit, ne_eqb (slot_at t x).left 0 (λ q. omega (arith, p.left.there)), at)
    (least-walk t c more (slot_at t x).left (record { holder = x; side = Left }) e u v l m (omega arith) p.left)
