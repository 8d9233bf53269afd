-- The five numbers, the codes, and the tests that every call begins with (document 01, "Calls and what they answer"; document 02, order 1).
use Rattle.std.specs.Prelude.{ℕ, Bool, cond, List, length, Option, Some, None, Result, Ok, Err}
use Rattle.scope.specs.Table.{slots_in}
use Rattle.scope.specs.declared.answer.Answer.{Answer}
use Rattle.scope.specs.declared.answer.Refusal.{Refusal}
use Rattle.scope.specs.declared.answer.Refusal.TheVariants.{WrongLength, OutOfRange, Damaged, KeyPresent}
use Rattle.scope.specs.declared.answer.Refusal.TheVariants.{KeyAbsent, NoFreeSlot, LastChange, GuardFails}
use Rattle.scope.specs.declared.answer.Refusal.TheVariants.{TooHigh, Unreadable}
use Rattle.scope.specs.declared.outcome.Passed.{Passed}
use Rattle.scope.specs.declared.slots.Slots.{Slots}
use Rattle.scope.specs.declared.answer.Denial.{Denial}
use Rattle.scope.specs.declared.answer.Denial.TheVariants.{Refused, Absent}

-- the code of each refusal
abbrev pub code_of : Refusal → ℕ
code_of WrongLength = 1
code_of OutOfRange = 2
code_of Damaged = 3
code_of KeyPresent = 4
code_of KeyAbsent = 5
code_of NoFreeSlot = 6
code_of LastChange = 7
code_of GuardFails = 8
code_of TooHigh = 9
code_of Unreadable = 10

-- a refusal: its code and four zeros
abbrev pub refusal : Refusal → Answer
refusal why = record { code = code_of why; change = 0; value = 0; more = 0; kind = 0 }

-- a key that is absent: its code, and the last key passed on each side of the walk to it
abbrev pub absence : Passed → Answer
absence passed = record { code = code_of KeyAbsent; change = 0; value = passed.below; more = passed.above; kind = 0 }

-- an amend or a drop that is denied
abbrev pub denial : Denial → Answer
denial (Refused why) = refusal why
denial (Absent passed) = absence passed

-- an accepted call: code 0, the change number, and what the call has to say
abbrev pub accepted : ℕ → ℕ → ℕ → ℕ → Answer
accepted change value more kind =
    record { code = 0; change = change; value = value; more = more; kind = kind }

-- what is done with a raw number that names something; one that names nothing is out of range
abbrev pub if_named : {A B : Type 0} → Option A → (A → Result B Refusal) → Result B Refusal
if_named None f = Err OutOfRange
if_named (Some x) f = f x

-- what is done past a test that may refuse
abbrev pub and_then : {A B : Type 0} → Result A Refusal → (A → Result B Refusal) → Result B Refusal
and_then (Err why) f = Err why
and_then (Ok x) f = f x

-- the same where what is done may be denied
abbrev pub or_denied : {A B : Type 0} → Result A Refusal → (A → Result B Denial) → Result B Denial
or_denied (Err why) f = Err (Refused why)
or_denied (Ok x) f = f x

-- what a call does: its answer, and the table afterwards
pub record Done : Type 0 where
  pub answer : Answer
  pub words : List ℕ

-- a refused call leaves the table as it was
abbrev pub refused : List ℕ → Refusal → Done
refused t why = record { answer = refusal why; words = t }

-- and so does one whose key is absent
abbrev pub missed : List ℕ → Passed → Done
missed t passed = record { answer = absence passed; words = t }

-- a denied call is either
abbrev pub denied : List ℕ → Denial → Done
denied t why = record { answer = denial why; words = t }

-- tests 2 and 3 for a table of c slots: its arguments are in range, and it is whole as far as the call looks at once
abbrev pub admit : Bool → Bool → ℕ → Result ℕ Refusal
admit in_range whole c = cond in_range (cond whole (Ok c) (Err Damaged)) (Err OutOfRange)

-- what is done with the slots of a table that has them
abbrev pub on_slots : {A : Type 0} → Option Slots → (ℕ → Result A Refusal) → Result A Refusal
on_slots None f = Err WrongLength
on_slots (Some s) f = f s.count

-- tests 1, 2 and 3 in this order
unfoldable pub gate : List ℕ → Bool → (ℕ → Bool) → Result ℕ Refusal
gate t in_range whole = on_slots (slots_in (length t)) (λ c. admit in_range (whole c) c)

-- a call that only answers, past its gate
abbrev pub answering : Result ℕ Refusal → (ℕ → Answer) → Answer
answering (Err why) f = refusal why
answering (Ok c) f = f c
