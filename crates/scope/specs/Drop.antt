-- drop: a record is taken out, in the order of writing that document 01 gives ("Calls and what they answer"; of a miss document 02, order 1).
use Rattle.std.specs.Prelude.{ℕ, zero, suc, ◌+◌, ◌-◌, cond, not, ◌||◌, List, set, ltb, eqb, Option, Some, None, Result, Ok, Err}
use Rattle.scope.specs.Numbers.{last_change}
use Rattle.scope.specs.Table.{word, count_word, change_word, slot_at, with_record, with_slot, link_at, register_at}
use Rattle.scope.specs.Fit.{fit_slot, header_ok}
use Rattle.scope.specs.Table.{zero_slot}
use Rattle.scope.specs.Answers.{Done, denied, accepted, gate, or_denied}
use Rattle.scope.specs.Walk.{walk_of}
use Rattle.scope.specs.declared.slot.Slot.{Slot}
use Rattle.scope.specs.declared.side.Side.TheVariants.{Left, Right}
use Rattle.scope.specs.declared.side.Link.{Link}
use Rattle.scope.specs.declared.answer.Answer.{Answer}
use Rattle.scope.specs.declared.answer.Refusal.{Refusal}
use Rattle.scope.specs.declared.answer.Refusal.TheVariants.{Damaged, LastChange}
use Rattle.scope.specs.declared.answer.Denial.{Denial}
use Rattle.scope.specs.declared.answer.Denial.TheVariants.{Refused, Absent}
use Rattle.scope.specs.declared.outcome.Walk.{Walk}
use Rattle.scope.specs.declared.outcome.Walk.TheVariants.{Hit, Miss, Damage}
use Rattle.scope.specs.declared.outcome.Leftmost.{Leftmost}
use Rattle.scope.specs.declared.outcome.Dropping.{Dropping}
use Rattle.scope.specs.declared.outcome.Dropping.TheVariants.{Lift, Replace}

-- the leftmost slot below slot k, which hangs at `link`; `more` slots may still be visited
unfoldable pub leftmost_from : ℕ → List ℕ → ℕ → ℕ → Link → Option Leftmost
leftmost_from zero t c k link = None
leftmost_from (suc more) t c k link =
    cond (fit_slot c (slot_at t k))
    (cond (eqb (slot_at t k).left 0) (Some (record { slot = k; link = link }))
    (leftmost_from more t c (slot_at t k).left (record { holder = k; side = Left })))
    None

-- tests 3 (a record is found where none is counted) and 7, before what is to be done
unfoldable pub if_may : List ℕ → Result Dropping Denial → Result Dropping Denial
if_may t plan =
    cond (eqb (word t count_word) 0) (Err (Refused Damaged))
    (cond (ltb (word t change_word) last_change) plan (Err (Refused LastChange)))

abbrev pub replacing : List ℕ → ℕ → Option Leftmost → Result Dropping Denial
replacing t slot None = Err (Refused Damaged)
replacing t slot (Some m) = if_may t (Ok (Replace slot m.slot m.link))

-- with at most one son the record is lifted out; with two the walk goes on to the leftmost on its right
unfoldable pub drop_at : List ℕ → ℕ → ℕ → Link → ℕ → Result Dropping Denial
drop_at t c slot link seen =
    cond (eqb (slot_at t slot).left 0) (if_may t (Ok (Lift slot link (slot_at t slot).right)))
    (cond (eqb (slot_at t slot).right 0) (if_may t (Ok (Lift slot link (slot_at t slot).left)))
    (replacing t slot
    (leftmost_from (c - seen) t c (slot_at t slot).right (record { holder = slot; side = Right }))))

unfoldable pub dropping_at : List ℕ → ℕ → Walk → Result Dropping Denial
dropping_at t c (Hit slot link seen) = drop_at t c slot link seen
dropping_at t c (Miss passed link seen) = Err (Absent passed)
dropping_at t c Damage = Err (Refused Damaged)

unfoldable pub drop_plan : List ℕ → ℕ → Result Dropping Denial
drop_plan t key =
    or_denied (gate t (not (eqb key 0)) (λ c. header_ok c t)) (λ c. dropping_at t c (walk_of t c key))

-- a son, or 0, at a link
unfoldable pub relinked : List ℕ → Link → ℕ → List ℕ
relinked t link son =
    -- the son takes the link
    let linked = set t (link_at link) son in
    -- if it is 0 and a slot holds the link, that slot's register there becomes 0
    cond (not (eqb son 0) || eqb link.holder 0) linked (set linked (register_at link.holder link.side) 0)

-- the slot with the record of another
abbrev pub with_record_of : Slot → Slot → Slot
with_record_of s from = with_record s from.state from.key from.pieces

-- with at most one son
abbrev pub lifted : List ℕ → ℕ → Link → ℕ → List ℕ
lifted t slot link son =
    -- that son, or 0, takes the record's link, with the register there
    let linked = relinked t link son in
    -- the freed slot is zeroed
    with_slot linked slot zero_slot

-- with two sons; `least` is m, the leftmost on the right, and `link` the link that leads to it
abbrev pub replaced : List ℕ → ℕ → ℕ → Link → List ℕ
replaced t slot least link =
    -- the dropped slot takes m's state, key and pieces
    let taken = with_slot t slot (with_record_of (slot_at t slot) (slot_at t least)) in
    -- m's right son, or 0, takes m's link, with the register there
    let linked = relinked taken link (slot_at t least).right in
    -- m's slot is zeroed
    with_slot linked least zero_slot

-- one record fewer, one change more
abbrev pub counted : List ℕ → List ℕ → List ℕ
counted t x = set (set x count_word (word t count_word - 1)) change_word (word t change_word + 1)

unfoldable pub dropped : List ℕ → Result Dropping Denial → Done
dropped t (Err why) = denied t why
dropped t (Ok (Lift slot link son)) =
    record { answer = accepted (word t change_word + 1) slot 0 0; words = counted t (lifted t slot link son) }
dropped t (Ok (Replace slot least link)) =
    record { answer = accepted (word t change_word + 1) least 0 0; words = counted t (replaced t slot least link) }

unfoldable pub drop_of : List ℕ → ℕ → Done
drop_of t key = dropped t (drop_plan t key)

abbrev pub drop_answer : List ℕ → ℕ → Answer
drop_answer t key = (drop_of t key).answer

abbrev pub drop_table : List ℕ → ℕ → List ℕ
drop_table t key = (drop_of t key).words
