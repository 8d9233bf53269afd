-- Slots that are fit: one with a link on a side, and a new leaf. Assumes nothing.
use Prim.Native.Nat.{ℕ, ◌≤◌}
use mathlib.Core.Path.{◌≡◌}
use mathlib.Core.Bool.{true, not, ◌&&◌}
use native.Mathlib.Omega.{arith}
use lib.Dec.{eqb}
use borrow.Author.Tests.{ne_eqb, le-leb}
use Rattle.scope.proofs.Bools.{and_l, and_r}
use Rattle.scope.specs.Numbers.{most_height}
use Rattle.scope.specs.Fit.{state_ok, pieces_ok, link_ok, tail_ok, fit_slot, record_ok}
use Rattle.scope.specs.Post.{leaf_slot}

-- a link to a slot of the table, beside a register in range
pub link_on : (c x h : ℕ) → 1 ≤ x → x ≤ c → h ≤ most_height → link_ok c x h ≡ true
unfolding link_ok
link_on c x h i j k = simp (le-leb x c j, le-leb h most_height k, ne_eqb x 0 (λ q. omega arith))

-- a new leaf is fit
pub fit-leaf : (c key pieces state : ℕ) → record_ok key pieces state ≡ true → fit_slot c (leaf_slot key pieces state) ≡ true
unfolding fit_slot record_ok link_ok tail_ok
fit-leaf c key pieces state r =
    simp (
      and_r (not (eqb key 0) && pieces_ok pieces) (state_ok state) r,
      and_l (not (eqb key 0)) (pieces_ok pieces) (and_l _ _ r),
      and_r (not (eqb key 0)) (pieces_ok pieces) (and_l _ _ r),
      le-leb 0 c (omega arith),
    )
