-- Each accepted firing lowers the worth: at the top, at any place, over any list of attempts. Assumes nothing.
use Prim.Native.Nat.{ℕ, suc, ◌+◌, ◌*◌, ◌≤◌, ◌<◌}
use mathlib.Core.Path.{◌≡◌, refl}
use mathlib.Core.Bool.{true}
use mathlib.Core.Option.{Option, none, some}
use mathlib.Core.List.{List, [], ◌∷◌}
use native.Mathlib.Omega.{arith}
use Rattle.scope.specs.Tree.{Tree, leaf, node, size, over}
use Rattle.scope.specs.Rules.{localh, guard, turned_v, doubled_u, doubled_v}
use Rattle.scope.specs.declared.rule.Pair.{Pair}
use Rattle.scope.specs.Worth.{worth_of}
use Rattle.scope.specs.declared.side.Side.{Side}
use Rattle.scope.specs.declared.rule.Kind.{Kind}
use Rattle.scope.specs.declared.rule.Kind.TheVariants.{Propagate, Lean, Even, Double}
use Rattle.scope.specs.declared.rule.Rule.{Rule}
use Rattle.tree.specs.Weight.{tilt, carry, top_height, under, Scale, weigh, Fair}
use Rattle.tree.specs.Measure.{taken, brought, Measure}
use Rattle.tree.specs.Rewrite.{fire_at, Attempt, attempted, or_same, one_if, after_attempts, accepted_attempts}
use Rattle.tree.proofs.Worth.Weight.{worth-under, worth-least}
use Rattle.tree.proofs.Worth.Tilt.{tilt-sym, carry-none, carry-step, propagate-num, lean-tilt, even-tilt, double-tilt}
use Rattle.tree.proofs.Firing.Guards.{propagate-says, lean-says, even-says, double-says}
use Rattle.tree.proofs.Worth.Falls.{falls}

-- the scale of the worth
abbrev worth_scale : Scale
worth_scale = record { carries = λ o above h. 6 * carry o above h; balances = tilt }

fair : Fair worth_scale
fair = record { none = λ o h. omega (arith, carry-none o h); even = tilt-sym }

under-weigh : (T : Tree) (o above : ℕ) → under T o above ≡ weigh worth_scale T o above
unfolding under weigh
under-weigh leaf o above = refl
under-weigh (node d a b l r) o above =
    omega (arith, under-weigh l (o + suc (size r)) a, under-weigh r (o + suc (size l)) b)

-- what a firing brings weighs less than what it takes
lighter : (k : Kind) (o above away : ℕ) (v u w : Pair) → guard k v u w ≡ true
    → brought o above away v u w k worth_scale < taken o above away v u w k worth_scale
lighter Propagate o above away v u w g =
    propagate-num o away v.near v.far (localh u) above (propagate-says v u w g)
lighter Lean o above away v u w g =
    let h = lean-says v u w g in
    let α : localh v ≡ suc (suc u.near) = omega arith in
    let β : over u.near (localh (turned_v v u)) ≡ suc u.near = omega arith in
    rw (α, β)
    (omega (
      arith,
      carry-step o above (suc u.near),
      lean-tilt v.near u.near u.far v.far h.0 h.1 h.2,
    ))
lighter Even o above away v u w g =
    let h = even-says v u w g in
    let α : localh v ≡ over u.near (localh (turned_v v u)) = omega arith in
    rw α (omega (arith, even-tilt v.near u.near u.far v.far h.0 h.1 h.2))
lighter Double o above away v u w g =
    let h = double-says v u w g in
    let α : localh v ≡ suc (suc (localh w)) = omega arith in
    let β : over (localh (doubled_u u w)) (localh (doubled_v v w)) ≡ suc (localh w) = omega arith in
    rw (α, β)
    (omega (
      arith,
      carry-step o above (suc (localh w)),
      double-tilt v.near u.near u.far v.far w.near w.far h.0 h.1 h.2 h.3,
    ))

abbrev worth_measure : Measure
worth_measure =
    record {
      Below = λ f g. f worth_scale < g worth_scale;
      shift = λ f g p q law h. omega (arith, law worth_scale fair);
      local = lighter;
    }

-- THE WORTH FALLS at each accepted firing, by any rule, anywhere
pub worth-falls : (way : List Side) (r : Rule) (T T' : Tree) → fire_at way r T ≡ some T' → worth_of T' < worth_of T
worth-falls way r T T' e =
    omega (
      arith,
      (falls worth_measure way r T T' e).below 0 (top_height T),
      under-weigh T 0 (top_height T),
      under-weigh T' 0 (top_height T),
      worth-under T,
      worth-least T' (top_height T),
    )

one : (o : Option Tree) (T : Tree) → ((T' : Tree) → o ≡ some T' → worth_of T' < worth_of T)
    → one_if o + worth_of (or_same o T) ≤ worth_of T
one none T h = omega arith
one (some T') T h = omega (arith, h T' refl)

-- so no more attempts of any list are accepted than the worth: what is left of it is still to be spent
pub accepted-bound : (xs : List Attempt) (T : Tree) → accepted_attempts xs T + worth_of (after_attempts xs T) ≤ worth_of T
unfolding accepted_attempts after_attempts
accepted-bound [] T = omega arith
accepted-bound (x ∷ xs) T =
    omega (
      arith,
      one (attempted x T) T (worth-falls x.way x.rule T),
      accepted-bound xs (or_same (attempted x T) T),
    )
