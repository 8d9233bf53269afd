-- fire: one rule at one link, with its refusals in order (document 01, "The eight rules").
use Rattle.std.specs.Prelude.{ℕ, Bool, true, false, cond, not, ◌&&◌, List, length, leb, eqb, Result, Ok, Err}
use Rattle.scope.specs.Numbers.{most_height, other, link_of, rule_of}
use Rattle.scope.specs.Table.{word, change_word, slots_in, slot_at, son, link_at, written}
use Rattle.scope.specs.Fit.{fit_slot, header_ok}
use Rattle.scope.specs.Answers.{Done, refused, accepted, and_then, if_named, on_slots}
use Rattle.scope.specs.Rules.{guard_at, highest_at, action_at}
use Rattle.scope.specs.declared.slot.Slot.{Slot}
use Rattle.scope.specs.declared.side.Link.{Link}
use Rattle.scope.specs.declared.rule.Kind.{Kind}
use Rattle.scope.specs.declared.rule.Kind.TheVariants.{Propagate, Lean, Even, Double}
use Rattle.scope.specs.declared.rule.Rule.{Rule}
use Rattle.scope.specs.declared.answer.Answer.{Answer}
use Rattle.scope.specs.declared.answer.Refusal.{Refusal}
use Rattle.scope.specs.declared.answer.Refusal.TheVariants.{Damaged, GuardFails, TooHigh}
use Rattle.scope.specs.declared.outcome.Nodes.{Nodes}

-- slot k for a firing: it has to be there (8), and then fit and none of the slots before it (3); 0 stands for none
unfoldable pub take_of : List ℕ → ℕ → ℕ → ℕ → ℕ → ℕ → Result Slot Refusal
take_of t c k a b e =
    cond (eqb k 0) (Err GuardFails)
    (cond (fit_slot c (slot_at t k) && not (eqb k a) && not (eqb k b) && not (eqb k e)) (Ok (slot_at t k)) (Err Damaged))

-- the guard (8), then the height limit (9)
unfoldable pub judged : Rule → Nodes → Result (Rule × Nodes) Refusal
judged r n =
    cond (guard_at r n) (cond (leb (highest_at r n) most_height) (Ok (r, n)) (Err TooHigh))
    (Err GuardFails)

-- rules 7 and 8 want a third node
abbrev pub has_third : Kind → Bool
has_third Propagate = false
has_third Lean = false
has_third Even = false
has_third Double = true

module _ (t : List ℕ) (c : ℕ) (r : Rule) (link : Link) where
  -- w, u's son on the other side, where the rule has one
  unfoldable pub aim_w : ℕ → Slot → ℕ → Slot → Result (Rule × Nodes) Refusal
  aim_w v sv u su =
      and_then (take_of t c (son su (other r.side)) link.holder v u)
      (λ sw. judged r (record {
        link = link;
        v = v;
        u = u;
        w = son su (other r.side);
        sv = sv;
        su = su;
        sw = sw;
      }))

  -- u, v's son on the rule's side
  unfoldable pub aim_u : ℕ → Slot → Result (Rule × Nodes) Refusal
  aim_u v sv =
      and_then (take_of t c (son sv r.side) link.holder v 0)
      (λ su. cond (has_third r.kind) (aim_w v sv (son sv r.side) su)
      (judged r (record {
        link = link;
        v = v;
        u = son sv r.side;
        w = son sv r.side;
        sv = sv;
        su = su;
        sw = su;
      })))

  -- v, which hangs at the link
  unfoldable pub aim_v : Result (Rule × Nodes) Refusal
  aim_v = and_then (take_of t c (word t (link_at link)) link.holder 0 0) (λ sv. aim_u (word t (link_at link)) sv)

  -- the holder first: a free one ends it with 8, an unfit one with 3; the root's link has none
  unfoldable pub aim : Result (Rule × Nodes) Refusal
  aim =
      cond (eqb link.holder 0) aim_v
      (cond (eqb (slot_at t link.holder).state 0) (Err GuardFails)
      (cond (fit_slot c (slot_at t link.holder)) aim_v (Err Damaged)))

-- test 3's part for the header
unfoldable pub aimed : List ℕ → ℕ → Rule → Link → Result (Rule × Nodes) Refusal
aimed t c r link = cond (header_ok c t) (aim t c r link) (Err Damaged)

unfoldable pub fire_plan : List ℕ → ℕ → ℕ → ℕ → Result (Rule × Nodes) Refusal
fire_plan t rule holder side =
    on_slots (slots_in (length t)) (λ c. if_named (rule_of rule) (λ r. if_named (link_of c holder side) (λ l. aimed t c r l)))

-- an accepted firing writes its words, and the change number stays
unfoldable pub fired : List ℕ → Result (Rule × Nodes) Refusal → Done
fired t (Err why) = refused t why
fired t (Ok (r, n)) =
    record { answer = accepted (word t change_word) 0 0 0; words = written t (action_at r n) }

unfoldable pub fire_of : List ℕ → ℕ → ℕ → ℕ → Done
fire_of t rule holder side = fired t (fire_plan t rule holder side)

abbrev pub fire_answer : List ℕ → ℕ → ℕ → ℕ → Answer
fire_answer t rule holder side = (fire_of t rule holder side).answer

abbrev pub fire_table : List ℕ → ℕ → ℕ → ℕ → List ℕ
fire_table t rule holder side = (fire_of t rule holder side).words
