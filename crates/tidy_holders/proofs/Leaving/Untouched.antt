-- What the edits of a rule leave of a slot: all of it, or its registers. Assumes nothing.
use Prim.Native.Nat.{ℕ, ◌≤◌}
use mathlib.Core.Path.{◌≡◌, refl, ◌∙◌, ap}
use mathlib.Core.Bool.{Bool, true, false, cond}
use mathlib.Core.List.{List, [], ◌∷◌}
use lib.Dec.{eqb}
use borrow.Author.Tests.{ne_eqb}
use Rattle.scope.specs.Table.{slot_at, written}
use Rattle.scope.specs.Rules.{seen, action_at}
use Rattle.scope.specs.declared.slot.Slot.{Slot}
use Rattle.scope.specs.declared.side.Side.{Side}
use Rattle.scope.specs.declared.side.Side.TheVariants.{Left, Right}
use Rattle.scope.specs.declared.rule.Kind.{Kind}
use Rattle.scope.specs.declared.rule.Kind.TheVariants.{Propagate, Lean, Even, Double}
use Rattle.scope.specs.declared.rule.Rule.{Rule}
use Rattle.scope.specs.declared.outcome.Nodes.{Nodes}
use Rattle.spelling.specs.Ready.{Sized}
use Rattle.scope.specs.Edits.{Part, son_on, register_on, Edit}
use Rattle.bridge.specs.Edit.{shape, with_part, edited}
use Rattle.bridge.proofs.Links.Edited.{EditsInside, Rewritten, rewritten}
use Rattle.bridge.proofs.Links.Outside.{Away, edited-away}
use Rattle.scope.specs.Rules.{action}
use Rattle.tidy_holders.specs.Away.{NoNode}
use Rattle.tidy_holders.proofs.Noting.Acts.{AreSlots, action-edits}

-- no register of slot k is written
abbrev KeptPart : Part → ℕ → ℕ → Type 0
KeptPart (son_on s) k j = Unit {0}
KeptPart (register_on s) k j = k ≡ j → ⊥

abbrev pub RegistersKept : ℕ → List Edit → Type 0
RegistersKept k [] = Unit {0}
RegistersKept k (e ∷ es) = KeptPart e.part k e.slot × RegistersKept k es

-- a link has no part in the registers
seen-son : (o s : Side) (n : ℕ) (y : Slot) → seen o (with_part (son_on s) n y) ≡ seen o y
unfolding with_part shape
seen-son Left Left n y = refl
seen-son Left Right n y = refl
seen-son Right Left n y = refl
seen-son Right Right n y = refl

kept-part : (o : Side) (p : Part) (k j n : ℕ) (y : Slot) → KeptPart p k j
    → seen o (cond (eqb k j) (with_part p n y) y) ≡ seen o y
kept-part o (son_on s) k j n y a = either (eqb k j)
  where
    either : (b : Bool) → seen o (cond b (with_part (son_on s) n y) y) ≡ seen o y
    either b = elim b as (λ b. seen o (cond b (with_part (son_on s) n y) y) ≡ seen o y) [ true ↦ seen-son o s n y | false ↦ refl ]
kept-part o (register_on s) k j n y a = rw (ne_eqb k j a) refl

pub registers-kept : (o : Side) (k : ℕ) (es : List Edit) (y : Slot) → RegistersKept k es
    → seen o (edited es k y) ≡ seen o y
unfolding edited
registers-kept o k [] y a = refl
registers-kept o k (e ∷ es) y a = registers-kept o k es _ a.1 ∙ kept-part o e.part k e.slot e.what y a.0

-- a slot that is none of the nodes
module _ (s : Side) (n : Nodes) (x : ℕ) (a : NoNode n x) where
  -- its registers stay, and all of it if it does not hold the link either
  pub kept_there : (k : Kind) → RegistersKept x (action k s n)
  kept_there Propagate = (a.v, tt)
  kept_there Lean = (tt, (tt, (tt, (a.v, (a.u, tt)))))
  kept_there Even = (tt, (tt, (tt, (a.v, (a.u, tt)))))
  kept_there Double = (tt, (tt, (tt, (tt, (tt, (a.u, (a.v, (a.w, (a.w, tt)))))))))

  pub away-there : (x ≡ n.link.holder → ⊥) → (k : Kind) → Away x (action k s n)
  away-there g Propagate = (a.v, tt)
  away-there g Lean = (g, (a.u, (a.v, (a.v, (a.u, tt)))))
  away-there g Even = (g, (a.u, (a.v, (a.v, (a.u, tt)))))
  away-there g Double = (g, (a.w, (a.w, (a.u, (a.v, (a.u, (a.v, (a.w, (a.w, tt)))))))))

-- the edits lie in the table
pub record Lies (c : ℕ) (n : Nodes) : Type 0 where
  pub holder : n.link.holder ≤ c
  pub v : n.v ≤ c
  pub u : n.u ≤ c
  pub w : n.w ≤ c

pub inside-there : (c : ℕ) (s : Side) (n : Nodes) → Lies c n → (k : Kind) → EditsInside c (action k s n)
inside-there c s n a Propagate = (a.v, tt)
inside-there c s n a Lean = (a.holder, (a.u, (a.v, (a.v, (a.u, tt)))))
inside-there c s n a Even = (a.holder, (a.u, (a.v, (a.v, (a.u, tt)))))
inside-there c s n a Double = (a.holder, (a.w, (a.w, (a.u, (a.v, (a.u, (a.v, (a.w, (a.w, tt)))))))))

module _ {t : List ℕ} {c : ℕ} (z : Sized t c) (r : Rule) (n : Nodes) (a : AreSlots n) (l : Lies c n) where
  abbrev fired : List ℕ
  fired = written t (action_at r n)

  abbrev edits : List Edit
  edits = action r.kind r.side n

  after : Rewritten t fired c edits
  after = rw (action-edits r n) (rewritten z edits (inside-there c r.side n l r.kind))

  module _ (y : ℕ) (i : 1 ≤ y) (b : NoNode n y) where
    -- A FIRING CHANGES NO SLOT but its nodes and the holder of its link
    pub untouched : (y ≡ n.link.holder → ⊥) → slot_at fired y ≡ slot_at t y
    untouched g = after.slots y i ∙ edited-away y edits _ (away-there r.side n y b g r.kind)

    -- and of the holder no register
    pub registers-stay : (o : Side) → seen o (slot_at fired y) ≡ seen o (slot_at t y)
    registers-stay o =
        ap (seen o) (after.slots y i) ∙ registers-kept o y edits _ (kept_there r.side n y b r.kind)
