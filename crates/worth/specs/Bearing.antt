-- What can be borne at a slot can be borne on its sides: the law of the walk. Assumes nothing.
use Rattle.std.specs.Prelude.{ℕ, ◌-◌, ◌≤◌, List}
use native.Mathlib.Omega.{arith}
use Rattle.spelling.proofs.Laws.{fit-left, fit-right}
use Rattle.fork.specs.declared.Fork.{Fork}
use Rattle.fork.specs.Hangs.{Forked}
use Rattle.worth.specs.Weight.{Bearable}

module _ {t : List ℕ} {more x : ℕ} {f : Fork} (d : Forked t more x f) where
  pub registers : (f.slot.lefth ≤ 65535) × (f.slot.righth ≤ 65535)
  registers = ((fit-left d.c f.slot d.fit).1, (fit-right d.c f.slot d.fit).1)

  module _ {n above : ℕ} (w : Bearable more n above) where
    bears : {g : ℕ} → g ≤ 65536 → Bearable (more - 1) n g
    bears p = record { few = omega (arith, w.few); most = w.most; over_it = omega arith }

    pub bears-sides : Bearable (more - 1) n f.slot.lefth × Bearable (more - 1) n f.slot.righth
    bears-sides = (bears (omega (arith, registers)), bears (omega (arith, registers)))
