-- tidy: the firings of the stated order, at most as many as the budget (document 01, "The eight rules").
use Rattle.std.specs.Prelude.{ℕ, zero, suc, ◌+◌, Bool, true, false, cond, not, ◌&&◌, List, [], ◌∷◌, leb, eqb, Option, Some, None, Result, Ok, Err}
use Rattle.scope.specs.Numbers.{most_height, other, root_link, rule_of}
use Rattle.scope.specs.Table.{word, change_word, slot_at, son, written}
use Rattle.scope.specs.Answers.{Done, refused, accepted}
use Rattle.scope.specs.Sums.{sound_gate}
use Rattle.scope.specs.Rules.{guard_at, highest_at, action_at}
use Rattle.scope.specs.Fire.{has_third}
use Rattle.scope.specs.declared.side.Side.TheVariants.{Left, Right}
use Rattle.scope.specs.declared.side.Link.{Link}
use Rattle.scope.specs.declared.rule.Rule.{Rule}
use Rattle.scope.specs.declared.answer.Refusal.{Refusal}
use Rattle.scope.specs.declared.answer.Answer.{Answer}
use Rattle.scope.specs.declared.outcome.Nodes.{Nodes}

-- the nodes of a rule at slot v, which hangs at `link`
abbrev pub nodes_at : List ℕ → Rule → Link → ℕ → Nodes
nodes_at t r link v =
    let u = son (slot_at t v) r.side in
    let w = cond (has_third r.kind) (son (slot_at t u) (other r.side)) u in
    record { link = link; v = v; u = u; w = w; sv = slot_at t v; su = slot_at t u; sw = slot_at t w }

-- the nodes are there: v holds a record, and u and w are slots of a table of c; 0, an empty link, is none. That they are
-- at most c is so on every sound table, and tidy fires on no other; it is tested all the same, so that the code may read
-- u and w without knowing more than the table's size
abbrev pub present : ℕ → Nodes → Bool
present c n =
    not (eqb n.sv.state 0) && (not (eqb n.u 0) && leb n.u c) && (not (eqb n.w 0) && leb n.w c)

-- the rule's guard holds at slot v; its link does not matter for that
unfoldable pub holds_at : List ℕ → ℕ → Rule → ℕ → Bool
holds_at t c r v = present c (nodes_at t r root_link v) && guard_at r (nodes_at t r root_link v)

-- it would be accepted too: no height above the limit
unfoldable pub due_at : List ℕ → ℕ → Rule → ℕ → Bool
due_at t c r v = holds_at t c r v && leb (highest_at r (nodes_at t r root_link v)) most_height

-- the two tests of a rule, given by its number, at slot v: the guard with the limit, or the guard alone
abbrev pub by_rule : Bool → List ℕ → ℕ → ℕ → Option Rule → Bool
by_rule limited t c v None = false
by_rule true t c v (Some r) = due_at t c r v
by_rule false t c v (Some r) = holds_at t c r v

unfoldable pub passes : Bool → List ℕ → ℕ → ℕ → ℕ → Bool
passes limited t c v n = by_rule limited t c v (rule_of n)

-- the lowest slot and then the lowest rule, by its number, that passes a test, among `left` rules from n on, or what comes after
module _ (test : ℕ → ℕ → Bool) where
  unfoldable pub rules_from : ℕ → ℕ → ℕ → Option (ℕ × ℕ) → Option (ℕ × ℕ)
  rules_from zero v n after = after
  rules_from (suc left) v n after = cond (test v n) (Some (v, n)) (rules_from left v (n + 1) after)

  -- among `left` slots from v on
  unfoldable pub slots_from : ℕ → ℕ → Option (ℕ × ℕ)
  slots_from zero v = None
  slots_from (suc left) v = rules_from 8 v 1 (slots_from left (v + 1))

-- the firing that is next, in a table of c slots
unfoldable pub next_of : List ℕ → ℕ → Option (ℕ × ℕ)
next_of t c = slots_from (passes true t c) c 1

-- no guard holds anywhere
abbrev pub nothing : Option (ℕ × ℕ) → Bool
nothing None = true
nothing (Some x) = false

unfoldable pub quiet : List ℕ → ℕ → Bool
quiet t c = nothing (slots_from (passes false t c) c 1)

-- the link that holds slot v: that of the lowest holder from k on, of `left` slots, and else the root's
unfoldable pub link_from : ℕ → List ℕ → ℕ → ℕ → Link
link_from zero t v k = root_link
link_from (suc left) t v k =
    cond (eqb (slot_at t k).left v) (record { holder = k; side = Left })
    (cond (eqb (slot_at t k).right v) (record { holder = k; side = Right }) (link_from left t v (k + 1)))

unfoldable pub link_to : List ℕ → ℕ → ℕ → Link
link_to t c v = link_from c t v 1

-- the table after rule n has fired at slot v. Tidy goes by v, and fire by the link that leads to it and with tests that a
-- sound table always passes; that both do the same there is a theorem (`due-tried` in `demands`)
abbrev pub fired_by : List ℕ → ℕ → ℕ → Option Rule → List ℕ
fired_by t c v None = t
fired_by t c v (Some r) = written t (action_at r (nodes_at t r (link_to t c v) v))

unfoldable pub fired_at : List ℕ → ℕ → ℕ → ℕ → List ℕ
fired_at t c v n = fired_by t c v (rule_of n)

-- how many were fired, and the table then
pub record Tidied : Type 0 where
  pub fired : ℕ
  pub words : List ℕ

abbrev pub on_next : Option (ℕ × ℕ) → Tidied → (ℕ → ℕ → Tidied) → Tidied
on_next None stop on = stop
on_next (Some (v, n)) stop on = on v n

-- `left` firings may still be made, `made` were
unfoldable pub tidy_from : ℕ → ℕ → List ℕ → ℕ → Tidied
tidy_from zero c t made = record { fired = made; words = t }
tidy_from (suc left) c t made =
    on_next (next_of t c) (record { fired = made; words = t }) (λ v n. tidy_from left c (fired_at t c v n) (made + 1))

unfoldable pub tidied : List ℕ → ℕ → Tidied → Done
tidied t c e =
    record {
      answer = accepted (word t change_word) e.fired (cond (quiet e.words c) 1 0) 0;
      words = e.words;
    }

abbrev pub tidying : List ℕ → Result ℕ Refusal → (ℕ → Done) → Done
tidying t (Err why) f = refused t why
tidying t (Ok c) f = f c

unfoldable pub tidy_of : List ℕ → ℕ → Done
tidy_of t budget = tidying t (sound_gate t true) (λ c. tidied t c (tidy_from budget c t 0))

abbrev pub tidy_answer : List ℕ → ℕ → Answer
tidy_answer t budget = (tidy_of t budget).answer

abbrev pub tidy_table : List ℕ → ℕ → List ℕ
tidy_table t budget = (tidy_of t budget).words

-- the rules that are fired, in order
abbrev pub rule_next : Option (ℕ × ℕ) → List ℕ → (ℕ → ℕ → List ℕ) → List ℕ
rule_next None stop on = stop
rule_next (Some (v, n)) stop on = on v n

unfoldable pub rules_fired : ℕ → ℕ → List ℕ → List ℕ
rules_fired zero c t = []
rules_fired (suc left) c t = rule_next (next_of t c) [] (λ v n. n ∷ rules_fired left c (fired_at t c v n))
