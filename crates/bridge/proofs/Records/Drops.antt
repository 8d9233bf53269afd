-- The plan of a drop at its link in a sound table: it meets no damage and takes the top record out. Assumes nothing.
use Prim.Native.Nat.{ℕ, ◌-◌, ◌≤◌}
use mathlib.Core.Path.{◌≡◌, refl, sym, ◌∙◌, ap, subst}
use mathlib.Core.List.{List}
use native.Mathlib.Omega.{arith}
use borrow.Author.Tests.{ne_eqb}
use Rattle.std.specs.Prelude.{Ok}
use Rattle.scope.specs.Numbers.{other}
use Rattle.scope.specs.Table.{word, slot_at, son, link_at}
use Rattle.scope.specs.Table.{zero_slot}
use Rattle.scope.specs.Tree.{Batch, Tree, leaf, node, times, true_height}
use Rattle.scope.specs.Sound.{Spells}
use Rattle.scope.specs.Rules.{pair}
use Rattle.scope.specs.Drop.{lifted, drop_at}
use Rattle.scope.specs.declared.rule.Pair.{Pair}
use Rattle.scope.specs.declared.side.Side.{Side}
use Rattle.scope.specs.declared.side.Side.TheVariants.{Left, Right}
use Rattle.scope.specs.declared.side.Link.{Link}
use Rattle.scope.specs.declared.outcome.Dropping.TheVariants.{Lift, Replace}
use Rattle.tree.specs.Rewrite.{mk}
use Rattle.tree.proofs.Firing.Sides.{times-mk}
use Rattle.bridge.specs.Below.{Hangs, Cut}
use Rattle.tree.specs.Without.{least, least_link, without_top}
use Rattle.bridge.specs.Planned.{Freed, lifts, moves, DropDone}
use Rattle.bridge.proofs.Links.Looks.{look}
use Rattle.tree.proofs.Keys.Lowest.{least-times}
use Rattle.bridge.proofs.Records.Relinks.{lifted-blank, lift-cut}
use Rattle.bridge.proofs.Links.Follows.{least-walk}
use Rattle.bridge.proofs.Records.Swaps.{swap-cut, swap-blank}

-- with no son on one side
module _ {t : List ℕ} {c : ℕ} (l : Link) (s : Side) (d : Batch) (p : Pair) (far : Tree)
    (h : Hangs t c l (mk s d p leaf far)) where
  at : word t (link_at l) ≡ d.slot
  at = ap (λ (e : Batch). e.slot) (sym (look t c _ d p leaf far s h.spells).holds)

  lift-freed : without_top (mk s d p leaf far) ≡ far
      → Freed t (lifted t d.slot l (son (slot_at t d.slot) (other s))) c l (mk s d p leaf far) d.slot
  unfolding times
  lift-freed e =
      record {
        cut = rw e
            (subst (λ (j : ℕ). Cut t (lifted t j l (son (slot_at t j) (other s))) c l (mk s d p leaf far) far) at
            (lift-cut l s d p far h));
        slots = λ j. rw e (times-mk s d p leaf far j ∙ omega arith);
        blank = subst (λ (j : ℕ). slot_at (lifted t j l (son (slot_at t j) (other s))) j ≡ zero_slot) at
            (lifted-blank (word t (link_at l)) l _ h.sized (look t c _ d p leaf far s h.spells).there h.most);
      }

-- the walk that found the slot has left enough visits to go on
pub planned : {t : List ℕ} {c : ℕ} (l : Link) (seen : ℕ) (d : Batch) (a b : ℕ) (left right : Tree)
    → Hangs t c l (node d a b left right) → true_height right ≤ c - seen
    → DropDone t c d.slot l seen (node d a b left right)
unfolding Spells drop_at without_top times
planned {t} {c} l seen d a b leaf right h high =
    let none : (slot_at t d.slot).left ≡ 0 = rw h.spells.holds h.spells.left in
    record {
      plan = Ok (Lift d.slot l (slot_at t d.slot).right);
      is = rw none refl;
      plans = lifts (lift-freed l Left d (pair a b) right h refl);
    }
planned {t} {c} l seen d a b (node e x y p q) leaf h high =
    let same = h.spells.holds in
    let some : (slot_at t d.slot).left ≡ 0 → ⊥ = λ z. omega (arith, h.spells.left.there, rw same at z) in
    let none : (slot_at t d.slot).right ≡ 0 = rw h.spells.holds h.spells.right in
    record {
      plan = Ok (Lift d.slot l (slot_at t d.slot).left);
      is = rw (ne_eqb _ 0 some, none) refl;
      plans = lifts (lift-freed l Right d (pair b a) (node e x y p q) h refl);
    }
planned {t} {c} l seen d a b (node e x y p q) (node g u v m n) h high =
    let on : Link = record { holder = d.slot; side = Right } in
    let same = h.spells.holds in
    let some : (slot_at t d.slot).left ≡ 0 → ⊥ = λ z. omega (arith, h.spells.left.there, rw same at z) in
    let more : (slot_at t d.slot).right ≡ 0 → ⊥ = λ z. omega (arith, h.spells.right.there, rw same at z) in
    let spelled : Spells t c (slot_at t d.slot).right (node g u v m n) = rw h.spells.holds h.spells.right in
    record {
      plan = Ok (Replace d.slot (least g m).slot (least_link on g m));
      is = rw (
        ne_eqb _ 0 some,
        ne_eqb _ 0 more,
        least-walk t c (c - seen) (slot_at t d.slot).right on g u v m n high spelled,
      )
          refl;
      plans = moves (record {
        cut = swap-cut l d a b (node e x y p q) g u v m n h;
        slots = λ j. omega (arith, least-times j g u v m n);
        blank = swap-blank l d a b (node e x y p q) g u v m n h;
      });
    }
