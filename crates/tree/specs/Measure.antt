-- What a firing takes from a tree's weight and what it brings, and measures that fall by that alone.
use Rattle.std.specs.Prelude.{ℕ, suc, ◌+◌, ◌≡◌, true}
use Rattle.scope.specs.Tree.{over}
use Rattle.scope.specs.Rules.{localh, guard, turned_v, doubled_u, doubled_v}
use Rattle.scope.specs.declared.rule.Pair.{Pair}
use Rattle.scope.specs.declared.rule.Kind.{Kind}
use Rattle.scope.specs.declared.rule.Kind.TheVariants.{Propagate, Lean, Even, Double}
use Rattle.tree.specs.Weight.{Scale, Fair}

-- what a node's own balance weighs
abbrev pub balance : Scale → Pair → ℕ
balance S x = S.balances x.near x.far

-- v stands under the register above, with o nodes outside, and `away` nodes on its far side
module _ (o above away : ℕ) (v u w : Pair) where
  -- the carries and balances that go, and those that come in their place
  abbrev pub taken : Kind → Scale → ℕ
  taken Propagate S =
      S.carries o above (localh v) + balance S v + S.carries (o + suc away) v.near (localh u)
  taken Lean S = S.carries o above (localh v) + (balance S v + balance S u)
  taken Even S = S.carries o above (localh v) + (balance S v + balance S u)
  taken Double S = S.carries o above (localh v) + (balance S v + (balance S u + balance S w))

  -- u over v
  abbrev turned : Scale → ℕ
  turned S =
      S.carries o above (over u.near (localh (turned_v v u)))
      + (S.balances u.near (localh (turned_v v u)) + balance S (turned_v v u))

  abbrev pub brought : Kind → Scale → ℕ
  brought Propagate S =
      S.carries o above (over (localh u) v.far) + S.balances (localh u) v.far
  brought Lean S = turned S
  brought Even S = turned S
  brought Double S =
      S.carries o above (over (localh (doubled_u u w)) (localh (doubled_v v w)))
      + (S.balances (localh (doubled_u u w)) (localh (doubled_v v w))
      + (balance S (doubled_u u w) + balance S (doubled_v v w)))

-- a way to compare weights by which what a guard lets through brings less than it takes
pub record Measure : Type 1 where
  -- the first is below the second
  pub Below : (Scale → ℕ) → (Scale → ℕ) → Type 0
  -- so it stays with the same weight added to both
  pub shift : (f g p q : Scale → ℕ) → ((S : Scale) → Fair S → f S + p S ≡ g S + q S) → Below q p → Below f g
  pub local : (k : Kind) (o above away : ℕ) (v u w : Pair) → guard k v u w ≡ true
      → Below (brought o above away v u w k) (taken o above away v u w k)
