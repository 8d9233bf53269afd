-- A rule that is due at a slot, and which comes first. Assumes nothing: these are statements.
use Rattle.std.specs.Prelude.{ℕ, ◌≤◌, ◌<◌, ◌≡◌, true, List}
use Rattle.scope.specs.Numbers.{rule_of}
use Rattle.scope.specs.Tidy.{due_at}
use Rattle.scope.specs.declared.rule.Rule.{Rule}
use Rattle.std.specs.Prelude.{Some}

-- number n is that of a rule that is due at slot v
pub record Due (t : List ℕ) (c v n : ℕ) : Type 0 where
  pub rule : Rule
  pub is : rule_of n ≡ Some rule
  pub first : 1 ≤ v
  pub most : v ≤ c
  pub due : due_at t c rule v ≡ true

-- the stated order: the lower slot first, and at the same slot the lower rule
pub data NotAfter (v n x y : ℕ) : Type 0 where
  lower_slot : v < x → NotAfter v n x y
  same_slot : v ≡ x → n ≤ y → NotAfter v n x y
