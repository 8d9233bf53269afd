-- What the numbers of a drop's plan are good for: its writes lie in the table. Assumes nothing: these are statements.
use Rattle.std.specs.Prelude.{ℕ, ◌≤◌, ◌<◌, ◌≡◌, true, List}
use Rattle.scope.specs.Numbers.{last_change}
use Rattle.scope.specs.Table.{word, count_word, change_word, slot_at}
use Rattle.scope.specs.Fit.{fit_slot}
use Rattle.scope.specs.declared.side.Link.{Link}
use Rattle.scope.specs.declared.side.Side.TheVariants.{Right}
use Rattle.scope.specs.declared.outcome.Walk.{Walk}
use Rattle.scope.specs.declared.outcome.Walk.TheVariants as walk
use Rattle.scope.specs.declared.outcome.Leftmost.{Leftmost}
use Rattle.scope.specs.declared.outcome.Dropping.{Dropping}
use Rattle.scope.specs.declared.outcome.Dropping.TheVariants.{Lift, Replace}
use Rattle.spelling.specs.Ready.{Sized, Ready}
use Rattle.gate.specs.AtSlot.{AtSlot}
use Rattle.std.specs.Prelude.{Option, Some, None, Result, Ok, Err}
use Rattle.scope.specs.declared.answer.Denial.{Denial}

-- the slot of a hit is fit
abbrev pub HitFits : List ℕ → ℕ → Walk → Type 0
HitFits t c (walk.Hit slot link seen) = fit_slot c (slot_at t slot) ≡ true
HitFits t c (walk.Miss passed link seen) = Unit {0}
HitFits t c walk.Damage = Unit {0}

-- a fit slot of the table, found by its key at a link, after so many visits
pub record FoundAt (t : List ℕ) (c slot : ℕ) (link : Link) (visits : ℕ) : Type 0 where
  pub ready : Ready t c
  pub first : 1 ≤ slot
  pub last : slot ≤ c
  pub held : link.holder ≤ c
  pub seen : visits ≤ c
  pub fits : fit_slot c (slot_at t slot) ≡ true

-- the link on the right of a slot
abbrev pub right_link : ℕ → Link
right_link slot = record { holder = slot; side = Right }

-- a link of the table, and a slot or none to hang there
pub record Linkable (t : List ℕ) (link : Link) (son : ℕ) : Type 0 where
  pub slots : ℕ
  pub sized : Sized t slots
  pub held : link.holder ≤ slots
  pub below : son ≤ slots

-- the leftmost slot of a subtree and what hangs on its right lie among c slots
abbrev pub LeastInside : List ℕ → ℕ → Option Leftmost → Type 0
LeastInside t c None = Unit {0}
LeastInside t c (Some m) = (1 ≤ m.slot) × (m.slot ≤ c) × (m.link.holder ≤ c) × ((slot_at t m.slot).right ≤ c)

pub record LeastReached (t : List ℕ) (c : ℕ) (end r : Option Leftmost) : Type 0 where
  pub is : r ≡ end
  pub inside : LeastInside t c r

-- a record that can be lifted out, and one that another can replace
pub record Lifting (t : List ℕ) (slot : ℕ) (link : Link) (son : ℕ) : Type 0 where
  pub placed : AtSlot t slot
  pub held : link.holder ≤ placed.slots
  pub below : son ≤ placed.slots

pub record Replacing (t : List ℕ) (slot least : ℕ) (link : Link) : Type 0 where
  pub placed : AtSlot t slot
  pub inside : LeastInside t placed.slots (Some (record { slot = least; link = link }))

-- a plan that is aimed at the table, or a refusal
abbrev pub DropAimed : List ℕ → Result Dropping Denial → Type 0
DropAimed t (Err why) = Unit {0}
DropAimed t (Ok (Lift slot link son)) = Lifting t slot link son
DropAimed t (Ok (Replace slot least link)) = Replacing t slot least link

-- a record is counted, and there is a change number left
pub record MayDrop (t : List ℕ) : Type 0 where
  pub some : 1 ≤ word t count_word
  pub change : word t change_word < last_change

pub record Liftable (t : List ℕ) (slot : ℕ) (link : Link) (son : ℕ) : Type 0 where
  pub aimed : Lifting t slot link son
  pub may : MayDrop t

pub record Replaceable (t : List ℕ) (slot least : ℕ) (link : Link) : Type 0 where
  pub aimed : Replacing t slot least link
  pub may : MayDrop t

abbrev pub CanDrop : List ℕ → Result Dropping Denial → Type 0
CanDrop t (Err why) = Unit {0}
CanDrop t (Ok (Lift slot link son)) = Liftable t slot link son
CanDrop t (Ok (Replace slot least link)) = Replaceable t slot least link

-- the plan of a drop is the defined one and can be carried out
pub record DropPlanned (t : List ℕ) (plan r : Result Dropping Denial) : Type 0 where
  pub is : r ≡ plan
  pub can : CanDrop t r
