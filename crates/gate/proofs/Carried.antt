-- A plan that was read and is carried out gives the answer and the table of the defined plan. Assumes nothing.
use Prim.Native.Nat.{ℕ}
use mathlib.Core.Path.{◌≡◌, sym, ◌∙◌, ap}
use mathlib.Core.List.{List}
use Rattle.scope.specs.Answers.{Done}
use Rattle.scope.specs.declared.answer.Answer.{Answer}
use Rattle.gate.specs.Ends.{Does}

-- r was read: it is the defined plan, and it turned out to be p; a and u are what carrying p out gave
pub carried : {P : Type 0} (carry : P → Done) {plan r p : P} {a : Answer} {u : List ℕ} → r ≡ plan → r ≡ p
    → Does (carry p) a u → Does (carry plan) a u
carried carry is was done =
    let e = sym was ∙ is in (done.0 ∙ ap (λ x. (carry x).answer) e, done.1 ∙ ap (λ x. (carry x).words) e)
