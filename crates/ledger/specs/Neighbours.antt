-- What the neighbours of an absent stamp are: there, on both sides of it, and nothing between. Assumes nothing: these are statements.
use Rattle.std.specs.Prelude.{ℕ, ◌≤◌, ◌<◌, ◌≡◌, List}
use Rattle.std.proofs.Math.Option.{some}
use Rattle.scope.specs.declared.outcome.Passed.{Passed}
use Rattle.ledger.specs.Entries.{Entry, lookup}
use Rattle.ledger.specs.Sorted.{EachStamp}

-- a stamp of the list that is on one side; or 0, where none is on that side
pub data OnSide (es : List Entry) (side : ℕ → Type 0) (stamp : ℕ) : Type 0 where
  there : (e : Entry) → lookup stamp es ≡ some e → side stamp → OnSide es side stamp
  nowhere : stamp ≡ 0 → EachStamp (λ other. side other → ⊥) es → OnSide es side stamp

-- a stamp does not lie between two; where the upper one is 0, nothing lies beyond the lower one
pub data NotBetween (near : Passed) (stamp : ℕ) : Type 0 where
  up_to : stamp ≤ near.below → NotBetween near stamp
  from : 1 ≤ near.above → near.above ≤ stamp → NotBetween near stamp

-- both together, with nothing between, are the nearest on each side
pub record Neighbours (key : ℕ) (es : List Entry) (near : Passed) : Type 0 where
  -- the one below is there and smaller, or none is smaller; the one above is there and larger, or none is larger
  pub smaller : OnSide es (λ stamp. stamp < key) near.below
  pub larger : OnSide es (λ stamp. key < stamp) near.above
  -- and no record lies between them
  pub between : EachStamp (NotBetween near) es
