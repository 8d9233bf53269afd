-- The eight rules on trees, each once for both sides: at the top, at any place, and one attempt after another.
use Rattle.std.specs.Prelude.{ℕ, ◌+◌, Bool, true, false, ◌&&◌, List, [], ◌∷◌, leb}
use Rattle.std.proofs.Math.Option.{Option, none, some}
use Rattle.scope.specs.Numbers.{most_height}
use Rattle.scope.specs.Tree.{Batch, Tree, leaf, node}
use Rattle.scope.specs.Rules.{pair, localh, guard, highest, turned_v, doubled_u, doubled_v}
use Rattle.scope.specs.declared.rule.Pair.{Pair}
use Rattle.scope.specs.declared.side.Side.{Side}
use Rattle.scope.specs.declared.side.Side.TheVariants.{Left, Right}
use Rattle.scope.specs.declared.rule.Kind.{Kind}
use Rattle.scope.specs.declared.rule.Kind.TheVariants.{Propagate, Lean, Even, Double}
use Rattle.scope.specs.declared.rule.Rule.{Rule}

-- a node seen from a side: its record, its registers, its near son and its far son
abbrev pub mk : Side → Batch → Pair → Tree → Tree → Tree
mk Left d x near far = node d x.near x.far near far
mk Right d x near far = node d x.far x.near far near

-- the top node, seen from a side, is handed on; where there is none, nothing comes of it
abbrev pub on_top : Side → Tree → (Batch → Pair → Tree → Tree → Option Tree) → Option Tree
on_top s leaf f = none
on_top Left (node d a b l r) f = f d (pair a b) l r
on_top Right (node d a b l r) f = f d (pair b a) r l

-- what the actions make of v over its near son u, and of v, u and u's far son w
module _ (s : Side) (dv du : Batch) (v u : Pair) where
  abbrev pub propagated_tree : Tree → Tree → Tree → Tree
  propagated_tree m n c = mk s dv (pair (localh u) v.far) (mk s du u m n) c

  abbrev pub rotated_tree : Tree → Tree → Tree → Tree
  rotated_tree m n c = mk s du (pair u.near (localh (turned_v v u))) m (mk s dv (turned_v v u) n c)

  abbrev pub doubled : Batch → Pair → Tree → Tree → Tree → Tree → Tree
  doubled dw w m e f c =
      mk s dw (pair (localh (doubled_u u w)) (localh (doubled_v v w)))
      (mk s du (doubled_u u w) m e) (mk s dv (doubled_v v w) f c)

abbrev pub when : Bool → Tree → Option Tree
when true T = some T
when false T = none

-- a kind of rule on a side
abbrev pub rule_on : Kind → Side → Rule
rule_on k s = record { kind = k; side = s }

-- a test of v, u and w by their registers; where a rule has no w, u stands for it
abbrev pub Test : Type 0
Test = Kind → Pair → Pair → Pair → Bool

-- a node over a near son that may have been rewritten
abbrev pub over_near : Side → Batch → Pair → Option Tree → Tree → Option Tree
over_near s d x none far = none
over_near s d x (some near) far = some (mk s d x near far)

module _ (test : Test) where
  -- the rules where v and u are there
  abbrev pub act : Kind → Side → Batch → Pair → Tree → Batch → Pair → Tree → Tree → Option Tree
  act Propagate s dv v c du u m n = when (test Propagate v u u) (propagated_tree s dv du v u m n c)
  act Lean s dv v c du u m n = when (test Lean v u u) (rotated_tree s dv du v u m n c)
  act Even s dv v c du u m n = when (test Even v u u) (rotated_tree s dv du v u m n c)
  act Double s dv v c du u m n =
      on_top s n (λ dw w e f. when (test Double v u w) (doubled s dv du v u dw w m e f c))

  -- a rule at the top of a tree, where its test passes
  unfoldable pub rewrite_top : Rule → Tree → Option Tree
  rewrite_top r T =
      on_top r.side T (λ dv v near c. on_top r.side near (λ du u m n. act r.kind r.side dv v c du u m n))

  -- a rule at the end of a way down from the top
  unfoldable pub rewrite_at : List Side → Rule → Tree → Option Tree
  rewrite_at [] r T = rewrite_top r T
  rewrite_at (s ∷ way) r T = on_top s T (λ d x near far. over_near s d x (rewrite_at way r near) far)

-- the firings: the published guard is the test
abbrev pub fire_top : Rule → Tree → Option Tree
fire_top = rewrite_top guard

abbrev pub fire_at : List Side → Rule → Tree → Option Tree
fire_at = rewrite_at guard

-- the guard holds, and no height above a limit would be written
abbrev pub within : ℕ → Test
within limit k v u w = guard k v u w && leb (highest k v u w) limit

-- a firing that a table accepts
abbrev pub accept_at : List Side → Rule → Tree → Option Tree
accept_at = rewrite_at (within most_height)

-- one firing that is tried: where, and by which rule
pub record Attempt : Type 0 where
  pub way : List Side
  pub rule : Rule

abbrev pub attempted : Attempt → Tree → Option Tree
attempted x T = fire_at x.way x.rule T

-- the tree after it, and 1 if it was accepted
abbrev pub or_same : Option Tree → Tree → Tree
or_same none T = T
or_same (some T') T = T'

abbrev pub one_if : Option Tree → ℕ
one_if none = 0
one_if (some T) = 1

unfoldable pub after_attempts : List Attempt → Tree → Tree
after_attempts [] T = T
after_attempts (x ∷ xs) T = after_attempts xs (or_same (attempted x T) T)

unfoldable pub accepted_attempts : List Attempt → Tree → ℕ
accepted_attempts [] T = 0
accepted_attempts (x ∷ xs) T = one_if (attempted x T) + accepted_attempts xs (or_same (attempted x T) T)
