-- A firing that passed its tests may be carried out. Assumes nothing.
use Prim.Native.Nat.{ℕ}
use borrow.Author.Tests.{leb-true}
use lib.Dec.{leb}
use Rattle.scope.proofs.Bools.{by_bool}
use Rattle.scope.specs.Rules.{guard_at, highest_at}
use Rattle.scope.specs.Fire.{judged}
use Rattle.scope.specs.declared.rule.Rule.{Rule}
use Rattle.scope.specs.declared.outcome.Nodes.{Nodes}
use Rattle.fire_aim.specs.Aimed.{NodesInside, MayFire}

pub may-judged : (c : ℕ) (r : Rule) (n : Nodes) → NodesInside c n → MayFire c (judged r n)
unfolding judged
may-judged c r n i =
    by_bool (guard_at r n)
    (λ g. by_bool (leb (highest_at r n) 65535)
    (λ h. simp (g, h) (record { nodes = i; height = leb-true _ _ h }))
    (λ h. simp (g, h) tt))
    (λ g. simp g tt)
