-- amend: other pieces and state for a record that is there (document 01, "Calls and what they answer"; of a miss document 02, order 1).
use Rattle.std.specs.Prelude.{ℕ, ◌+◌, cond, List, set, ltb, Result, Ok, Err}
use Rattle.scope.specs.Numbers.{last_change}
use Rattle.scope.specs.Table.{word, change_word, slot_at, with_record, with_slot}
use Rattle.scope.specs.Fit.{header_ok, record_ok}
use Rattle.scope.specs.Answers.{Done, denied, accepted, gate, or_denied}
use Rattle.scope.specs.Walk.{walk_of}
use Rattle.scope.specs.declared.slot.Slot.{Slot}
use Rattle.scope.specs.declared.answer.Answer.{Answer}
use Rattle.scope.specs.declared.answer.Refusal.TheVariants.{Damaged, LastChange}
use Rattle.scope.specs.declared.answer.Denial.{Denial}
use Rattle.scope.specs.declared.answer.Denial.TheVariants.{Refused, Absent}
use Rattle.scope.specs.declared.outcome.Walk.{Walk}
use Rattle.scope.specs.declared.outcome.Walk.TheVariants.{Hit, Miss, Damage}

-- tests 5 and 7
unfoldable pub amending_at : List ℕ → Walk → Result ℕ Denial
amending_at t (Hit slot link seen) = cond (ltb (word t change_word) last_change) (Ok slot) (Err (Refused LastChange))
amending_at t (Miss passed link seen) = Err (Absent passed)
amending_at t Damage = Err (Refused Damaged)

unfoldable pub amend_plan : List ℕ → ℕ → ℕ → ℕ → Result ℕ Denial
amend_plan t key pieces state =
    or_denied (gate t (record_ok key pieces state) (λ c. header_ok c t)) (λ c. amending_at t (walk_of t c key))

-- the slot with other pieces and another state
abbrev pub with_pieces : Slot → ℕ → ℕ → Slot
with_pieces s pieces state = with_record s state s.key pieces

unfoldable pub amended : List ℕ → ℕ → ℕ → Result ℕ Denial → Done
amended t pieces state (Err why) = denied t why
amended t pieces state (Ok k) =
    record {
      answer = accepted (word t change_word + 1) k 0 0;
      words = set (with_slot t k (with_pieces (slot_at t k) pieces state)) change_word (word t change_word + 1);
    }

unfoldable pub amend_of : List ℕ → ℕ → ℕ → ℕ → Done
amend_of t key pieces state = amended t pieces state (amend_plan t key pieces state)

abbrev pub amend_answer : List ℕ → ℕ → ℕ → ℕ → Answer
amend_answer t key pieces state = (amend_of t key pieces state).answer

abbrev pub amend_table : List ℕ → ℕ → ℕ → ℕ → List ℕ
amend_table t key pieces state = (amend_of t key pieces state).words
