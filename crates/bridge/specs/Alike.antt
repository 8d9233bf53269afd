-- A firing on a tree and one on words come to the same. Assumes nothing: these are statements.
use Rattle.std.specs.Prelude.{ℕ, List}
use Rattle.std.proofs.Math.Option.{Option, none, some}
use Rattle.scope.specs.Table.{written}
use Rattle.scope.specs.Tree.{Tree}
use Rattle.scope.specs.Rules.{action_at}
use Rattle.scope.specs.declared.answer.Refusal.{Refusal}
use Rattle.scope.specs.declared.answer.Refusal.TheVariants.{GuardFails, TooHigh}
use Rattle.std.specs.Prelude.{Result, Ok, Err}
use Rattle.scope.specs.declared.rule.Rule.{Rule}
use Rattle.scope.specs.declared.outcome.Nodes.{Nodes}

-- the refusal of a rule from which nothing comes on a tree, by what its guard alone lets through: 8 where that is nothing
-- either, and 9 where it is a tree, which the height limit stops
pub data Unmet : Option Tree → Refusal → Type 0 where
  guard_fails : Unmet none GuardFails
  too_high : {T : Tree} → Unmet (some T) TooHigh

-- what comes of a rule on a tree, by its guard alone and with the height limit too, beside what comes of it on words: both
-- are refused, or both accepted and then Q holds of the tree and the words afterwards
abbrev pub Alike : List ℕ → (Tree → List ℕ → Type 0) → Option Tree → Option Tree → Result (Rule × Nodes) Refusal → Type 0
Alike t Q guarded none (Err why) = Unmet guarded why
Alike t Q guarded none (Ok (r, n)) = ⊥
Alike t Q guarded (some T) (Err why) = ⊥
Alike t Q guarded (some T) (Ok (r, n)) = Q T (written t (action_at r n))
