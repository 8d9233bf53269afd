-- post: a new record in the lowest free slot, hung where its key belongs (document 01, "Calls and what they answer").
use Rattle.std.specs.Prelude.{ℕ, zero, suc, ◌+◌, cond, ◌&&◌, List, set, ltb, eqb, Result, Ok, Err}
use Rattle.scope.specs.Numbers.{last_change}
use Rattle.scope.specs.Table.{word, count_word, change_word, slot_at, zero_slot, with_record, with_slot, link_at}
use Rattle.scope.specs.Fit.{record_ok, blank_slot, header_ok}
use Rattle.scope.specs.Answers.{Done, refused, accepted, gate, and_then}
use Rattle.scope.specs.Walk.{walk_of}
use Rattle.scope.specs.declared.slot.Slot.{Slot}
use Rattle.scope.specs.declared.side.Link.{Link}
use Rattle.scope.specs.declared.answer.Answer.{Answer}
use Rattle.scope.specs.declared.answer.Refusal.{Refusal}
use Rattle.scope.specs.declared.answer.Refusal.TheVariants.{Damaged, KeyPresent, NoFreeSlot, LastChange}
use Rattle.scope.specs.declared.outcome.Walk.{Walk}
use Rattle.scope.specs.declared.outcome.Walk.TheVariants.{Hit, Miss, Damage}
use Rattle.scope.specs.declared.outcome.Posting.{Posting}

-- the lowest free slot among the `left` slots from k on; 0 for none
unfoldable pub free_from : ℕ → List ℕ → ℕ → ℕ
free_from zero t k = 0
free_from (suc left) t k = cond (eqb (slot_at t k).state 0) k (free_from left t (k + 1))

unfoldable pub free_slot : List ℕ → ℕ → ℕ
free_slot t c = free_from c t 1

-- tests 6, 3 and 7 at the lowest free slot k: there is one, it is blank, the count has room, the change number too
unfoldable pub hang_at : List ℕ → ℕ → Link → ℕ → Result Posting Refusal
hang_at t c link k =
    cond (eqb k 0) (Err NoFreeSlot)
    (cond (blank_slot (slot_at t k) && ltb (word t count_word) c)
    (cond (ltb (word t change_word) last_change) (Ok (record { slot = k; link = link })) (Err LastChange))
    (Err Damaged))

-- test 4 comes before them
unfoldable pub posting_at : List ℕ → ℕ → Walk → Result Posting Refusal
posting_at t c (Hit slot link seen) = Err KeyPresent
posting_at t c (Miss passed link seen) = hang_at t c link (free_slot t c)
posting_at t c Damage = Err Damaged

unfoldable pub post_plan : List ℕ → ℕ → ℕ → ℕ → Result Posting Refusal
post_plan t key pieces state =
    and_then (gate t (record_ok key pieces state) (λ c. header_ok c t)) (λ c. posting_at t c (walk_of t c key))

-- the new leaf: no sons, both registers 0
abbrev pub leaf_slot : ℕ → ℕ → ℕ → Slot
leaf_slot key pieces state = with_record zero_slot state key pieces

-- the leaf in slot k, its link, one record more, one change more; the register above it is not written
unfoldable pub hung : List ℕ → ℕ → Link → Slot → List ℕ
hung t k link new =
    set (set (set (with_slot t k new) (link_at link) k) count_word (word t count_word + 1)) change_word (word t change_word + 1)

unfoldable pub posted : List ℕ → Slot → Result Posting Refusal → Done
posted t new (Err why) = refused t why
posted t new (Ok x) =
    record { answer = accepted (word t change_word + 1) x.slot 0 0; words = hung t x.slot x.link new }

unfoldable pub post_of : List ℕ → ℕ → ℕ → ℕ → Done
post_of t key pieces state = posted t (leaf_slot key pieces state) (post_plan t key pieces state)

abbrev pub post_answer : List ℕ → ℕ → ℕ → ℕ → Answer
post_answer t key pieces state = (post_of t key pieces state).answer

abbrev pub post_table : List ℕ → ℕ → ℕ → ℕ → List ℕ
post_table t key pieces state = (post_of t key pieces state).words
