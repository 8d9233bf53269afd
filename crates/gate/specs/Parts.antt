-- The parts of the tests of a slot and of a visit, as the code takes them together. Assumes nothing: these are definitions.
use Rattle.std.specs.Prelude.{ℕ, ◌+◌, ◌-◌, Bool, cond, ◌&&◌, leb, eqb}
use Rattle.std.specs.Int.Bits.{bit_or}
use Rattle.scope.specs.Numbers.{most_height}
use Rattle.scope.specs.Fit.{state_ok, link_ok, tail_fits, fit_slot}
use Rattle.scope.specs.declared.slot.Slot.{Slot}

-- what makes any height beside an empty link too high, and what makes any number above c so
abbrev pub burden_of : ℕ → ℕ
burden_of link = cond (eqb link 0) most_height 0

abbrev pub spare_of : ℕ → ℕ
spare_of c = most_height - c

-- a link and the register beside it, each with what is added to it
abbrev pub beside_of : ℕ → ℕ → ℕ → ℕ
beside_of extra link register = bit_or (register + burden_of link) (link + extra)

-- both links and their registers are in range, and a visit is one of c
abbrev pub bounds_ok : ℕ → ℕ → Slot → Bool
bounds_ok c n s = link_ok c s.left s.lefth && (link_ok c s.right s.righth && leb n c)

-- the state, and the zero at the end
abbrev pub ends_ok : Slot → Bool
ends_ok s = state_ok s.state && tail_fits s

-- the n-th visit of a walk through c slots
abbrev pub visit_ok : ℕ → ℕ → Slot → Bool
visit_ok c n s = leb n c && fit_slot c s
