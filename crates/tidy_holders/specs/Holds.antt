-- What is noted of a table's links, and what is asked of a note. Assumes nothing: these are statements and definitions.
use Rattle.std.specs.Prelude.{ℕ, ◌+◌, ◌*◌, ◌≤◌, ◌≡◌, List, [], ◌∷◌, get_or, set}
use Rattle.scope.specs.Numbers.{other}
use Rattle.scope.specs.Table.{slot_at, son, InTable}
use Rattle.scope.specs.declared.side.Side.{Side}
use Rattle.scope.specs.declared.side.Side.TheVariants.{Left, Right}
use Rattle.scope.specs.declared.outcome.Nodes.{Nodes}
use Rattle.scope.specs.Edits.{Part, son_on, register_on, Edit}
use Rattle.tidy_holders.specs.Codes.{link_for, link_number, held_at}

-- the number of a link of a table of c slots; slot 0 holds one link only
pub record CodeIn (c q : ℕ) : Type 0 where
  pub most : q ≤ 2 * c + 1
  pub proper : q ≡ 1 → ⊥

-- EVERY SLOT HANGS WHERE IT IS NOTED, and so at one link only
pub record AllNoted (t : List ℕ) (c : ℕ) (h : List ℕ) : Type 0 where
  pub is : (q : ℕ) → CodeIn c q → 1 ≤ held_at t q → get_or h (held_at t q) 0 ≡ q

-- the links of the two sons of slot k are to be noted
pub record Sons (t : List ℕ) (k : ℕ) : Type 0 where
  pub table : InTable t k
  pub most : k ≤ 4095
  pub left : (slot_at t k).left ≤ 4095
  pub right : (slot_at t k).right ≤ 4095

unfoldable pub sons_noted : List ℕ → ℕ → List ℕ → List ℕ
sons_noted t k h =
    set (set h (slot_at t k).left (link_number (link_for k Left))) (slot_at t k).right (link_number (link_for k Right))

-- a link that is written is noted for the slot that hangs there now; slot 0 stands for none
unfoldable pub noted_part : Part → ℕ → ℕ → List ℕ → List ℕ
noted_part (son_on s) k x h = set h x (link_number (link_for k s))
noted_part (register_on s) k x h = h

unfoldable pub noted : List Edit → List ℕ → List ℕ
noted [] h = h
noted (e ∷ es) h = noted es (noted_part e.part e.slot e.what h)

-- what a firing at these nodes asks: every slot that it moves or hangs something at has a number
pub record Moving (n : Nodes) (near : Side) : Type 0 where
  pub holder : n.link.holder ≤ 4095
  pub v_most : n.v ≤ 4095
  pub u_most : n.u ≤ 4095
  pub w_most : n.w ≤ 4095
  pub u_far : son n.su (other near) ≤ 4095
  pub w_near : son n.sw near ≤ 4095
  pub w_far : son n.sw (other near) ≤ 4095
