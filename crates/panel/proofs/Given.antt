-- The numbers of a kept promise, handed on to C. Assumes nothing.
use Prim.Native.Nat.{ℕ}
use mathlib.Core.Path.{◌≡◌, ◌∙◌, ap}
use mathlib.Core.List.{List}
use Rattle.scope.specs.declared.answer.Answer.{Answer}
use Rattle.panel.specs.Five.{five_of}

-- a and u are the answer and the words that were promised; the numbers are those of a
pub given : {numbers u words : List ℕ} {a answer : Answer} → numbers ≡ five_of a → (a ≡ answer) × (u ≡ words)
    → (numbers ≡ five_of answer) × (u ≡ words)
given e p = (e ∙ ap five_of p.0, p.1)
