-- A link or a register of a slot to be written, and several one after the other (document 01, "The table").
use Rattle.std.specs.Prelude.{ℕ, ◌+◌, cond, List, [], ◌∷◌, eqb}
use Rattle.scope.specs.Table.{root_word, base, link_place, register_place, Write, put}
use Rattle.scope.specs.declared.side.Side.{Side}

-- a slot's link or register on a side
pub data Part : Type 0 where
  son_on : Side → Part
  register_on : Side → Part

abbrev pub offset : Part → ℕ
offset (son_on s) = link_place s
offset (register_on s) = register_place s

-- a part of a slot to be written; slot 0 stands for the root's word
pub record Edit : Type 0 where
  pub slot : ℕ
  pub part : Part
  pub what : ℕ

abbrev pub edit : ℕ → Part → ℕ → Edit
edit k p n = record { slot = k; part = p; what = n }

abbrev pub place_of : ℕ → Part → ℕ
place_of k p = cond (eqb k 0) root_word (base k + offset p)

unfoldable pub writes : List Edit → List Write
writes [] = []
writes (e ∷ es) = put (place_of e.slot e.part) e.what ∷ writes es
