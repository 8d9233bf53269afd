-- Demand 3: the worth falls at every accepted fire; no list of attempts has more accepted ones. Assumes nothing.
use Prim.Native.Nat.{ℕ, ◌+◌, ◌≤◌, ◌<◌}
use mathlib.Core.Path.{ap}
use mathlib.Core.Bool.{cond}
use mathlib.Core.List.{List, [], ◌∷◌}
use native.Mathlib.Omega.{arith}
use lib.Dec.{eqb}
use borrow.Author.Tests.{ne_eqb}
use Rattle.scope.specs.Numbers.{most_height}
use Rattle.scope.specs.Sound.{tree_in}
use Rattle.scope.specs.Worth.{worth_of}
use Rattle.scope.specs.Calls.{answers, after}
use Rattle.spelling.specs.Whole.{Whole}
use Rattle.tree.proofs.Worth.Fall.{worth-falls}
use Rattle.tree.proofs.Rest.Quiet.{accepted-fires}
use Rattle.demands.specs.Fires.{worth_in, Trial, tried_on, Accepted, fires, accepted_in}
use Rattle.demands.specs.Firing.{Enabled}
use Rattle.demands.proofs.Second.Firing.{Fares, acted, unmoved, fares, fire-ledger}

-- the published action lowers the worth of the tree
enabled-falls : (t : List ℕ) (c : ℕ) (x : Trial) (e : Enabled t c x) → worth_of e.tree < worth_in t c
enabled-falls t c x e =
    let p = e.at in
    worth-falls p.leads.way p.named.rule (tree_in t c) e.tree
    (accepted-fires most_height p.leads.way p.named.rule (tree_in t c) e.tree e.is)

-- an attempt costs 1 of the worth if it is accepted, and nothing if not
costs : {t : List ℕ} {c : ℕ} (x : Trial) → Fares t c x
    → cond (eqb (tried_on t x).answer.code 0) 1 0 + worth_in (tried_on t x).words c ≤ worth_in t c
costs {t} {c} x (acted e z f) = rw z (omega (arith, enabled-falls t c x e, ap worth_of f.tree))
costs {t} {c} x (unmoved ne same) =
    rw (ne_eqb (tried_on t x).answer.code 0 ne) (omega (arith, ap (λ (u : List ℕ). worth_in u c) same))

-- THE WORTH FALLS at every accepted call of fire
pub worth-falls-at : {t : List ℕ} {c : ℕ} → Whole t c → (x : Trial) → Accepted t x
    → worth_in (tried_on t x).words c < worth_in t c
worth-falls-at w x z = omega (arith, rw z at (costs x (fares w x)))

-- NO MORE ARE ACCEPTED THAN THE WORTH, in any list of attempts; what is left of it is the worth at the end
pub spends : {t : List ℕ} {c : ℕ} → Whole t c → (xs : List Trial)
    → accepted_in (answers (fires xs) t) + worth_in (after (fires xs) t) c ≤ worth_in t c
unfolding answers after accepted_in
spends {t = t} {c = c} w [] = omega arith
spends {t = t} {c = c} w (x ∷ xs) =
    omega (arith, costs x (fares w x), spends {t = (tried_on t x).words} {c = c} (fire-ledger w x).whole xs)
