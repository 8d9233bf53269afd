-- The refusals that each call can answer, and what a refusal is (document 01, "Calls and what they answer"; document 02, order 1).
-- Assumes nothing.
use Rattle.std.specs.Prelude.{ℕ, ◌≡◌, Bool, true, false, ◌||◌, List, [], ◌∷◌, ◌++◌, map, length, eqb}
use Rattle.std.proofs.Math.Option.{Option, none, some}
use Rattle.scope.specs.Table.{slots_in}
use Rattle.scope.specs.Answers.{Done, code_of, absence, refused, missed}
use Rattle.scope.specs.Walk.{walk_of}
use Rattle.scope.specs.Calls.{Call, Start, Check, Find, Post, Amend, Drop, Rank, Total, Worth, Fire, Tidy, answer_of}
use Rattle.scope.specs.declared.answer.Answer.{Answer}
use Rattle.scope.specs.declared.side.Link.{Link}
use Rattle.scope.specs.declared.slots.Slots.{Slots}
use Rattle.scope.specs.declared.outcome.Passed.{Passed}
use Rattle.scope.specs.declared.outcome.Walk.TheVariants.{Miss}
use Rattle.scope.specs.declared.answer.Refusal.{Refusal}
use Rattle.scope.specs.declared.answer.Refusal.TheVariants.{WrongLength, OutOfRange, Damaged, KeyPresent, KeyAbsent}
use Rattle.scope.specs.declared.answer.Refusal.TheVariants.{NoFreeSlot, LastChange, GuardFails, TooHigh}
use Rattle.std.specs.Prelude.{Some}

-- the refusals of each call that are a code and four zeros
abbrev pub bare_refusals : Call → List Refusal
bare_refusals Start = WrongLength ∷ []
bare_refusals Check = WrongLength ∷ Damaged ∷ []
bare_refusals (Find key) = WrongLength ∷ OutOfRange ∷ Damaged ∷ []
bare_refusals (Post key pieces state) = WrongLength ∷ OutOfRange ∷ Damaged ∷ KeyPresent ∷ NoFreeSlot ∷ LastChange ∷ []
bare_refusals (Amend key pieces state) = WrongLength ∷ OutOfRange ∷ Damaged ∷ LastChange ∷ []
bare_refusals (Drop key) = WrongLength ∷ OutOfRange ∷ Damaged ∷ LastChange ∷ []
bare_refusals (Rank r) = WrongLength ∷ OutOfRange ∷ Damaged ∷ KeyAbsent ∷ []
bare_refusals (Total K) = WrongLength ∷ Damaged ∷ []
bare_refusals Worth = WrongLength ∷ Damaged ∷ []
bare_refusals (Fire rule holder side) = WrongLength ∷ OutOfRange ∷ Damaged ∷ GuardFails ∷ TooHigh ∷ []
bare_refusals (Tidy budget) = WrongLength ∷ Damaged ∷ []

-- the key that a call needs: it is refused with 5 where this key is absent
abbrev pub needs : Call → Option ℕ
needs Start = none
needs Check = none
needs (Find key) = some key
needs (Post key pieces state) = none
needs (Amend key pieces state) = some key
needs (Drop key) = some key
needs (Rank r) = none
needs (Total K) = none
needs Worth = none
needs (Fire rule holder side) = none
needs (Tidy budget) = none

-- the codes that come with four zeros
abbrev pub codes_bare : Call → List ℕ
codes_bare x = map code_of (bare_refusals x)

-- the code for an absent key
abbrev pub code_for_key : Option ℕ → List ℕ
code_for_key none = []
code_for_key (some key) = code_of KeyAbsent ∷ []

-- and all of them
abbrev pub codes_listed : Call → List ℕ
codes_listed x = code_for_key (needs x) ++ codes_bare x

abbrev pub among : ℕ → List ℕ → Bool
among n [] = false
among n (m ∷ ms) = eqb n m || among n ms

-- a call is refused: its code is not 0
abbrev pub Refuses : Call → List ℕ → Type 0
Refuses x t = (answer_of x t).code ≡ 0 → ⊥

-- it is refused with code 5 for a key
pub record LacksKey (x : Call) (t : List ℕ) : Type 0 where
  pub key : ℕ
  pub needed : needs x ≡ some key
  pub five : (answer_of x t).code ≡ code_of KeyAbsent

-- the walk to a key through all the slots of a table ends at an empty link
pub record Misses (t : List ℕ) (key : ℕ) : Type 0 where
  pub slots : Slots
  pub sized : slots_in (length t) ≡ Some slots
  pub link : Link
  pub passed : Passed
  pub seen : ℕ
  pub walk : walk_of t slots.count key ≡ Miss passed link seen

-- an answer's code, and four zeros
abbrev pub only_code : Answer → Answer
only_code a = record { code = a.code; change = 0; value = 0; more = 0; kind = 0 }

-- 5 for a key: that walk missed, and beside the code are the last keys that it passed on each side
pub record CarriesPassed (t : List ℕ) (key : ℕ) (a : Answer) : Type 0 where
  pub misses : Misses t key
  pub is : a ≡ absence misses.passed

-- accepted with code 0; or refused with a listed code and four zeros, or because the needed key is absent, and every word as
-- it was
pub data Answered (x : Call) (t : List ℕ) : Done → Type 0 where
  accepts : {d : Done} → d.answer.code ≡ 0 → Answered x t d
  refuses : (why : Refusal) → among (code_of why) (codes_bare x) ≡ true → Answered x t (refused t why)
  lacks : (key : ℕ) → needs x ≡ some key → (m : Misses t key) → Answered x t (missed t m.passed)
