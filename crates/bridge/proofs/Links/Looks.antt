-- A slot and a spelled node seen from a side; the sides differ only here. Assumes nothing.
use Prim.Native.Nat.{ℕ, ◌≤◌}
use mathlib.Core.Path.{◌≡◌, refl}
use mathlib.Core.Bool.{Bool, true, ◌&&◌, not}
use mathlib.Core.List.{List}
use lib.Dec.{eqb}
use Rattle.scope.proofs.Bools.{and_l, and_r}
use Rattle.scope.specs.Numbers.{other}
use Rattle.scope.specs.Table.{slot_at, son, register}
use Rattle.scope.specs.Fit.{state_ok, pieces_ok, link_ok, tail_fits, fit_slot}
use Rattle.scope.specs.Tree.{Batch, Tree}
use Rattle.scope.specs.Sound.{batch_at, Spells}
use Rattle.scope.specs.Rules.{seen, pair}
use Rattle.scope.specs.declared.rule.Pair.{Pair}
use Rattle.scope.specs.declared.side.Side.{Side}
use Rattle.scope.specs.declared.side.Side.TheVariants.{Left, Right}
use Rattle.scope.specs.declared.slot.Slot.{Slot}
use Rattle.spelling.proofs.Laws.{fits}
use Rattle.tree.specs.Rewrite.{mk}
use Rattle.scope.specs.Edits.{son_on, register_on}
use Rattle.bridge.specs.Edit.{shape, with_part}

-- what a part's change makes of a slot seen from a side
module _ (s : Side) (x : Slot) where
  pub shape-self : shape s x (son x s) (son x (other s)) (seen s x) ≡ x
  unfolding shape
  shape-self = elim s as (λ s. shape s x (son x s) (son x (other s)) (seen s x) ≡ x) [ Left ↦ refl | Right ↦ refl ]

  module _ (n f : ℕ) (p : Pair) (k : ℕ) where
    pub near-son : with_part (son_on s) k (shape s x n f p) ≡ shape s x k f p
    unfolding with_part shape
    near-son = elim s as (λ s. with_part (son_on s) k (shape s x n f p) ≡ shape s x k f p) [ Left ↦ refl | Right ↦ refl ]

    pub far-son : with_part (son_on (other s)) k (shape s x n f p) ≡ shape s x n k p
    unfolding with_part shape
    far-son = elim s as (λ s. with_part (son_on (other s)) k (shape s x n f p) ≡ shape s x n k p) [ Left ↦ refl | Right ↦ refl ]

    pub near-register : with_part (register_on s) k (shape s x n f p) ≡ shape s x n f (pair k p.far)
    unfolding with_part shape
    near-register = elim s as (λ s. with_part (register_on s) k (shape s x n f p) ≡ shape s x n f (pair k p.far)) [ Left ↦ refl | Right ↦ refl ]

    pub far-register : with_part (register_on (other s)) k (shape s x n f p) ≡ shape s x n f (pair p.near k)
    unfolding with_part shape
    far-register = elim s as (λ s. with_part (register_on (other s)) k (shape s x n f p) ≡ shape s x n f (pair p.near k)) [ Left ↦ refl | Right ↦ refl ]

  -- the same number again changes nothing
  pub same-son : with_part (son_on s) (son x s) x ≡ x
  unfolding with_part
  same-son = shape-self

-- a fit slot is so with other links and registers that are in range
pub record FitFrom (c : ℕ) (x : Slot) (s : Side) : Type 0 where
  pub near : link_ok c (son x s) (register x s) ≡ true
  pub far : link_ok c (son x (other s)) (register x (other s)) ≡ true
  pub other_links : (n f : ℕ) (p : Pair) → link_ok c n p.near ≡ true → link_ok c f p.far ≡ true
      → fit_slot c (shape s x n f p) ≡ true

record Core (a b p z : Bool) : Type 0 where
  first : a ≡ true
  second : b ≡ true
  third : p ≡ true
  last : z ≡ true

core : (a b p l r z : Bool) → (a && b && p && l && r && z) ≡ true → Core a b p z
core a b p l r z e =
    let e3 = and_l (a && b && p) l (and_l (a && b && p && l) r (and_l (a && b && p && l && r) z e)) in
    record {
      first = and_l a b (and_l (a && b) p e3);
      second = and_r a b (and_l (a && b) p e3);
      third = and_r (a && b) p e3;
      last = and_r (a && b && p && l && r) z e;
    }

module _ (c : ℕ) (x : Slot) (e : fit_slot c x ≡ true) where
  slot-core : Core (state_ok x.state) (not (eqb x.key 0)) (pieces_ok x.pieces) (tail_fits x)
  unfolding fit_slot
  slot-core =
      core _ _ _ (link_ok c x.left x.lefth) (link_ok c x.right x.righth) _ e

  pub fit-from : (s : Side) → FitFrom c x s
  unfolding fit_slot shape
  fit-from Left = record {
    near = (fits c x e).left;
    far = (fits c x e).right;
    other_links = λ n f p i j. simp (slot-core.first, slot-core.second, slot-core.third, slot-core.last, i, j);
  }
  fit-from Right = record {
    near = (fits c x e).right;
    far = (fits c x e).left;
    other_links = λ n f p i j. simp (slot-core.first, slot-core.second, slot-core.third, slot-core.last, i, j);
  }

-- a node that the words spell, seen from a side
pub record Looks (t : List ℕ) (c x : ℕ) (s : Side) (d : Batch) (p : Pair) (near far : Tree) : Type 0 where
  pub there : 1 ≤ x
  pub fit : fit_slot c (slot_at t x) ≡ true
  pub holds : d ≡ batch_at t x
  pub registers : p ≡ seen s (slot_at t x)
  pub near_son : Spells t c (son (slot_at t x) s) near
  pub far_son : Spells t c (son (slot_at t x) (other s)) far

module _ (t : List ℕ) (c x : ℕ) (d : Batch) (p : Pair) (near far : Tree) where
  pub look : (s : Side) → Spells t c x (mk s d p near far) → Looks t c x s d p near far
  unfolding Spells
  look Left h =
      record {
        there = h.there;
        fit = h.fit;
        holds = h.holds;
        registers = λ i. record { near = h.lefth i; far = h.righth i };
        near_son = h.left;
        far_son = h.right;
      }
  look Right h =
      record {
        there = h.there;
        fit = h.fit;
        holds = h.holds;
        registers = λ i. record { near = h.righth i; far = h.lefth i };
        near_son = h.right;
        far_son = h.left;
      }

  -- and back, in a table where the slot has taken another shape
  pub spell : (s : Side) (y : Slot) (n f : ℕ) → 1 ≤ x → slot_at t x ≡ shape s y n f p → fit_slot c (shape s y n f p) ≡ true
      → d ≡ record { slot = x; key = y.key; pieces = y.pieces; state = y.state }
      → Spells t c n near → Spells t c f far → Spells t c x (mk s d p near far)
  unfolding Spells shape
  spell Left y n f i e g h a b =
      record { there = i; fit = rw e g; holds = rw e h; lefth = rw e refl; righth = rw e refl; left = rw e a; right = rw e b }
  spell Right y n f i e g h a b =
      record { there = i; fit = rw e g; holds = rw e h; lefth = rw e refl; righth = rw e refl; left = rw e b; right = rw e a }
