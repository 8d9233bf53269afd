-- A propagation moves nothing. Assumes nothing.
use Prim.Native.Nat.{ℕ}
use mathlib.Core.Path.{◌≡◌, refl}
use mathlib.Core.List.{List}
use Rattle.scope.specs.declared.side.Side.{Side}
use Rattle.scope.specs.declared.rule.Kind.{Kind}
use Rattle.scope.specs.declared.rule.Kind.TheVariants.{Propagate}
use Rattle.scope.specs.declared.outcome.Nodes.{Nodes}
use Rattle.scope.specs.Rules.{action}
use Rattle.tidy_holders.specs.Holds.{noted, noted_part}

pub none-noted : (h : List ℕ) (n : Nodes) (near : Side) {k : Kind} → k ≡ Propagate → h ≡ noted (action k near n) h
unfolding noted noted_part
none-noted h n near e = rw e refl
