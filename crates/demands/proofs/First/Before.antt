-- What order 1 of document 02 changed: value and more at code 5 of find, amend and drop, and nothing else of them or of post.
-- The calls of before are kept here for this comparison alone: those of now, over a walk that notes no keys. Assumes nothing.
use Prim.Native.Nat.{ℕ, zero, suc, ◌+◌, ◌-◌}
use mathlib.Core.Path.{◌≡◌, refl, ◌∙◌, ap}
use mathlib.Core.Bool.{cond, not}
use mathlib.Core.List.{List}
use lib.Dec.{eqb, ltb}
use borrow.Author.Tests.{eqb-true}
use Rattle.scope.proofs.Bools.{by_bool}
use Rattle.scope.specs.Numbers.{root_link, last_change}
use Rattle.scope.specs.Table.{word, root_word, count_word, change_word, slot_at}
use Rattle.scope.specs.Fit.{header_ok, record_ok}
use Rattle.scope.specs.Answers.{Done, code_of, refusal, gate, answering}
use Rattle.scope.specs.Walk.{step_of, on_step, none_passed, passing, walk_from, walk_of}
use Rattle.scope.specs.Find.{found_in, find_answer}
use Rattle.scope.specs.Post.{posting_at, post_plan, posted, post_of, leaf_slot}
use Rattle.scope.specs.Answers.{and_then}
use Rattle.scope.specs.Amend.{amending_at, amend_plan, amended, amend_of}
use Rattle.scope.specs.Answers.{or_denied}
use Rattle.scope.specs.Drop.{leftmost_from, if_may, replacing, drop_at, dropping_at, drop_plan, dropped, drop_of}
use Rattle.scope.specs.Answers.{or_denied}
use Rattle.scope.specs.declared.answer.Answer.{Answer}
use Rattle.scope.specs.declared.answer.Refusal.{Refusal}
use Rattle.scope.specs.declared.answer.Refusal.TheVariants.{KeyAbsent}
use Rattle.scope.specs.declared.side.Side.{Side}
use Rattle.scope.specs.declared.side.Side.TheVariants.{Right}
use Rattle.scope.specs.declared.side.Link.{Link}
use Rattle.scope.specs.declared.outcome.Passed.{Passed}
use Rattle.scope.specs.declared.outcome.Step.{Step}
use Rattle.scope.specs.declared.outcome.Step.TheVariants.{Here, Down, Broken}
use Rattle.scope.specs.declared.outcome.Walk.{Walk}
use Rattle.scope.specs.declared.outcome.Walk.TheVariants.{Hit, Miss, Damage}
use Rattle.scope.specs.declared.outcome.Leftmost.{Leftmost}
use Rattle.scope.specs.declared.outcome.Dropping.{Dropping}
use Rattle.scope.specs.declared.outcome.Dropping.TheVariants as dropping-is
use Rattle.std.specs.Prelude.{Option, Some, None, Result, Ok, Err}
use Rattle.scope.specs.declared.answer.Denial.{Denial}

module _ (t : List ℕ) (c key : ℕ) where
  -- the walk of before: of a miss only the link and the visits
  unfoldable pub silent_from : ℕ → ℕ → Link → ℕ → Walk
  silent_from zero k link seen = cond (eqb k 0) (Miss none_passed link seen) Damage
  silent_from (suc more) k link seen =
      cond (eqb k 0) (Miss none_passed link seen)
      (on_step (step_of c key (slot_at t k)) (Hit k link (seen + 1))
      (λ side next. silent_from more next (record { holder = k; side = side }) (seen + 1)))

  abbrev pub silent_of : Walk
  silent_of = silent_from c (word t root_word) root_link 0

-- a walk without the keys that it noted
abbrev pub forget : Walk → Walk
forget (Hit slot link seen) = Hit slot link seen
forget (Miss passed link seen) = Miss none_passed link seen
forget Damage = Damage

-- an answer, with four zeros beside code 5
abbrev pub quieted : Answer → Answer
quieted a = cond (eqb a.code (code_of KeyAbsent)) (refusal KeyAbsent) a

abbrev pub quiet_done : Done → Done
quiet_done d = record { answer = quieted d.answer; words = d.words }

-- NOTING KEYS CHANGES NOTHING ELSE OF THE WALK
forget-step : (s : Step) (hit : Walk) (on on' : Side → ℕ → Walk) → forget hit ≡ hit
    → ((side : Side) (next : ℕ) → forget (on side next) ≡ on' side next)
    → forget (on_step s hit on) ≡ on_step s hit on'
forget-step Here hit on on' e f = e
forget-step (Down side next) hit on on' e f = f side next
forget-step Broken hit on on' e f = refl

module _ (t : List ℕ) (c key : ℕ) where
  silent-from : (n k : ℕ) (link : Link) (passed : Passed) (seen : ℕ)
      → forget (walk_from t c key n k link passed seen) ≡ silent_from t c key n k link seen
  unfolding walk_from silent_from
  silent-from zero k link passed seen = by_bool (eqb k 0) (λ p. rw p refl) (λ p. rw p refl)
  silent-from (suc n) k link passed seen =
      by_bool (eqb k 0) (λ p. rw p refl)
      (λ p. rw p (forget-step (step_of c key (slot_at t k)) (Hit k link (seen + 1)) _ _ refl
      (λ side next.
      silent-from n next (record { holder = k; side = side }) (passing side (slot_at t k).key passed) (seen + 1))))

  pub walk_kept : forget (walk_of t c key) ≡ silent_of t c key
  unfolding walk_of
  walk_kept = silent-from c (word t root_word) root_link none_passed 0

-- a refusal with four zeros stays as it is
quiet-refusal : (why : Refusal) → quieted (refusal why) ≡ refusal why
quiet-refusal why =
    by_bool (eqb (code_of why) (code_of KeyAbsent))
    (λ p. rw (p, eqb-true (code_of why) (code_of KeyAbsent) p) refl) (λ p. rw p refl)

-- FIND
module _ (t : List ℕ) (key : ℕ) where
  found-quiet : (w : Walk) → quieted (found_in t w) ≡ found_in t (forget w)
  unfolding found_in
  found-quiet (Hit slot link seen) = refl
  found-quiet (Miss passed link seen) = refl
  found-quiet Damage = refl

  on-gate : (g : Result ℕ Refusal) → quieted (answering g (λ c. found_in t (walk_of t c key))) ≡ answering g (λ c. found_in t (silent_of t c key))
  on-gate (Err why) = quiet-refusal why
  on-gate (Ok c) = found-quiet (walk_of t c key) ∙ ap (found_in t) (walk_kept t c key)

  pub find-kept : quieted (find_answer t key)
      ≡ answering (gate t (not (eqb key 0)) (λ c. header_ok c t)) (λ c. found_in t (silent_of t c key))
  unfolding find_answer
  find-kept = on-gate (gate t (not (eqb key 0)) (λ c. header_ok c t))

module _ (t : List ℕ) (key pieces state : ℕ) where
  abbrev of_record : Result ℕ Refusal
  of_record = gate t (record_ok key pieces state) (λ c. header_ok c t)

  -- POST
  posting-kept : (c : ℕ) (w : Walk) → posting_at t c w ≡ posting_at t c (forget w)
  unfolding posting_at
  posting-kept c (Hit slot link seen) = refl
  posting-kept c (Miss passed link seen) = refl
  posting-kept c Damage = refl

  on_post : (g : Result ℕ Refusal) → and_then g (λ c. posting_at t c (walk_of t c key)) ≡ and_then g (λ c. posting_at t c (silent_of t c key))
  on_post (Err why) = refl
  on_post (Ok c) = posting-kept c (walk_of t c key) ∙ ap (posting_at t c) (walk_kept t c key)

  pub post-kept : post_of t key pieces state
      ≡ posted t (leaf_slot key pieces state) (and_then of_record (λ c. posting_at t c (silent_of t c key)))
  unfolding post_of post_plan
  post-kept = ap (posted t (leaf_slot key pieces state)) (on_post of_record)

  -- AMEND
  amending-quiet : (w : Walk) → quiet_done (amended t pieces state (amending_at t w)) ≡ amended t pieces state (amending_at t (forget w))
  unfolding amended amending_at
  amending-quiet (Hit slot link seen) = by_bool (ltb (word t change_word) last_change) (λ p. rw p refl) (λ p. rw p refl)
  amending-quiet (Miss passed link seen) = refl
  amending-quiet Damage = refl

  on-amend : (g : Result ℕ Refusal) → quiet_done (amended t pieces state (or_denied g (λ c. amending_at t (walk_of t c key))))
      ≡ amended t pieces state (or_denied g (λ c. amending_at t (silent_of t c key)))
  unfolding amended
  on-amend (Err why) = rw (quiet-refusal why) refl
  on-amend (Ok c) =
      amending-quiet (walk_of t c key) ∙ ap (λ (w : Walk). amended t pieces state (amending_at t w)) (walk_kept t c key)

  pub amend-kept : quiet_done (amend_of t key pieces state)
      ≡ amended t pieces state (or_denied of_record (λ c. amending_at t (silent_of t c key)))
  unfolding amend_of amend_plan
  amend-kept = on-amend of_record

-- DROP: a plan for a record that was found is no absence
module _ (t : List ℕ) where
  abbrev Quiet : Result Dropping Denial → Type 0
  Quiet plan = quiet_done (dropped t plan) ≡ dropped t plan

  may-quiet : (plan : Result Dropping Denial) → Quiet plan → Quiet (if_may t plan)
  unfolding if_may dropped
  may-quiet plan q =
      by_bool (eqb (word t count_word) 0)
      (λ p. rw p refl)
      (λ p. rw p (by_bool (ltb (word t change_word) last_change) (λ r. rw r q) (λ r. rw r refl)))

  lift-quiet : (slot : ℕ) (link : Link) (son : ℕ) → Quiet (Ok (dropping-is.Lift slot link son))
  unfolding dropped
  lift-quiet slot link son = refl

  replacing-quiet : (slot : ℕ) (l : Option Leftmost) → Quiet (replacing t slot l)
  unfolding dropped
  replacing-quiet slot None = refl
  replacing-quiet slot (Some m) = may-quiet (Ok (dropping-is.Replace slot m.slot m.link)) refl

  drop-at-quiet : (c slot : ℕ) (link : Link) (seen : ℕ) → Quiet (drop_at t c slot link seen)
  unfolding drop_at
  drop-at-quiet c slot link seen =
      by_bool (eqb (slot_at t slot).left 0)
      (λ p. rw p (may-quiet _ (lift-quiet slot link (slot_at t slot).right)))
      (λ p. rw p (by_bool (eqb (slot_at t slot).right 0)
      (λ q. rw q (may-quiet _ (lift-quiet slot link (slot_at t slot).left)))
      (λ q. rw q (replacing-quiet slot
      (leftmost_from (c - seen) t c (slot_at t slot).right (record { holder = slot; side = Right }))))))

  dropping-quiet : (c : ℕ) (w : Walk) → quiet_done (dropped t (dropping_at t c w)) ≡ dropped t (dropping_at t c (forget w))
  unfolding dropping_at
  dropping-quiet c (Hit slot link seen) = drop-at-quiet c slot link seen
  dropping-quiet c (Miss passed link seen) = unfold dropped in refl
  dropping-quiet c Damage = unfold dropped in refl

  module _ (key : ℕ) where
    on-drop : (g : Result ℕ Refusal) → quiet_done (dropped t (or_denied g (λ c. dropping_at t c (walk_of t c key))))
        ≡ dropped t (or_denied g (λ c. dropping_at t c (silent_of t c key)))
    unfolding dropped
    on-drop (Err why) = rw (quiet-refusal why) refl
    on-drop (Ok c) =
        dropping-quiet c (walk_of t c key) ∙ ap (λ (w : Walk). dropped t (dropping_at t c w)) (walk_kept t c key)

    pub drop-kept : quiet_done (drop_of t key)
        ≡ dropped t (or_denied (gate t (not (eqb key 0)) (λ c. header_ok c t)) (λ c. dropping_at t c (silent_of t c key)))
    unfolding drop_of drop_plan
    drop-kept = on-drop (gate t (not (eqb key 0)) (λ c. header_ok c t))
