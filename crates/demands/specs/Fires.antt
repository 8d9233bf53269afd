-- Attempted firings, by their raw numbers, and lists of them; the worth of a table. Assumes nothing: these are definitions.
use Rattle.std.specs.Prelude.{ℕ, ◌+◌, ◌≡◌, cond, List, [], ◌∷◌, map, eqb}
use Rattle.scope.specs.Sound.{tree_in}
use Rattle.scope.specs.Answers.{Done}
use Rattle.scope.specs.Worth.{worth_of}
use Rattle.scope.specs.Fire.{fire_of}
use Rattle.scope.specs.Calls.{Call, Fire}
use Rattle.scope.specs.declared.answer.Answer.{Answer}

-- the worth of the tree that a table of c slots spells
abbrev pub worth_in : List ℕ → ℕ → ℕ
worth_in t c = worth_of (tree_in t c)

-- the numbers of one call of fire
pub record Trial : Type 0 where
  pub rule : ℕ
  pub holder : ℕ
  pub side : ℕ

-- what that call does
abbrev pub tried_on : List ℕ → Trial → Done
tried_on t x = fire_of t x.rule x.holder x.side

-- it is accepted
abbrev pub Accepted : List ℕ → Trial → Type 0
Accepted t x = (tried_on t x).answer.code ≡ 0

abbrev pub fires : List Trial → List Call
fires = map (λ x. Fire x.rule x.holder x.side)

-- how many answers say that the call was accepted
unfoldable pub accepted_in : List Answer → ℕ
accepted_in [] = 0
accepted_in (a ∷ rest) = cond (eqb a.code 0) 1 0 + accepted_in rest
