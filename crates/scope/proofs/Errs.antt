-- What a `?` hands on is the error that it was given, and what stands behind a refusal. Assumes nothing.
use Rattle.std.specs.Prelude.{◌≡◌, refl, Option, Some, None, Result, Ok, Err, IsErrAnd, ok_or}
use Rattle.scope.specs.declared.answer.Refusal.{Refusal}
use Rattle.scope.specs.declared.answer.Denial.{Denial}
use Rattle.scope.specs.declared.answer.Denial.TheVariants.{Refused}

pub handed_on : {A : Type 0} (r : Result A Refusal) {why : Refusal} → IsErrAnd r (λ x. x ≡ why) → r ≡ Err why
handed_on (Ok x) p = absurd p
handed_on (Err x) p = rw p refl

-- where the call is denied by what refused it
pub denied_on : {A : Type 0} (r : Result A Denial) {why : Refusal} → IsErrAnd r (λ x. x ≡ Refused why) → r ≡ Err (Refused why)
denied_on (Ok x) p = absurd p
denied_on (Err x) p = rw p refl

-- what a value that may be missing was, where a refusal stands for it
pub named_so : {A : Type 0} (x : Option A) (why : Refusal) {y : A} → ok_or x why ≡ Ok y → x ≡ Some y
named_so None why e = cc
named_so (Some z) why e = cc

pub unnamed : {A : Type 0} (x : Option A) (why : Refusal) {other : Refusal} → ok_or x why ≡ Err other → (x ≡ None) × (other ≡ why)
unnamed None why e = (refl, cc)
unnamed (Some z) why e = cc
