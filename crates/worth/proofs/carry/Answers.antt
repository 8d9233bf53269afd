-- `worth::carry` meets its contract. Assumes nothing.
use Prim.Native.Nat.{◌-◌}
use native.Mathlib.Omega.{arith}
use Rattle.worth.proofs.Weight.{product, no-product}
use Rattle.worth.proofs.carry.Goals as goal

pub overflow_mul-result : goal.overflow_mul-result
overflow_mul-result c =
    let at = c.args in omega (
      arith,
      product at.out (at.high - at.above) (omega (arith, c.requires)) (omega (
        arith,
        c.requires,
      )),
    )

pub returns-then-above-high : goal.returns-then-above-high
returns-then-above-high c =
    let at = c.args in omega (
      arith,
      c.if-above-high.true,
      product at.out (at.high - at.above) (omega (arith, c.requires)) (omega
          (arith, c.requires)),
    )

pub returns-else-above-high : goal.returns-else-above-high
returns-else-above-high c =
    let at = c.args in omega (arith, c.requires, no-product at.out at.high at.above c.if-above-high.false)
