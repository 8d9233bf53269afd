-- Demand 2: tidy is its firings, each one an accepted call of fire. Assumes nothing.
use Prim.Native.Nat.{ℕ, zero, suc, ◌+◌}
use mathlib.Core.Path.{◌≡◌, refl, ◌∙◌, ap}
use mathlib.Core.Bool.{true, cond}
use mathlib.Core.List.{List, [], ◌∷◌}
use native.Mathlib.Omega.{arith}
use lib.ListN.{length}
use Rattle.scope.proofs.Bools.{by_bool}
use Rattle.scope.specs.Table.{word, change_word}
use Rattle.scope.specs.Sound.{tree_in}
use Rattle.scope.specs.Answers.{Done, accepted}
use Rattle.scope.specs.Fire.{aimed, fire_plan, fired, fire_of}
use Rattle.scope.specs.Tidy.{nodes_at, link_to, next_of, fired_at, quiet, tidy_from, rules_fired, tidied, tidy_of, tidy_answer, tidy_table}
use Rattle.scope.specs.Calls.{answers, after}
use Rattle.scope.specs.declared.answer.Answer.{Answer}
use Rattle.spelling.specs.Whole.{Whole}
use Rattle.tree.specs.Shape.{Quiet}
use Rattle.bridge.specs.Leads.{side_number}
use Rattle.bridge.proofs.Firing.Calls.{plan-is}
use Rattle.bridge.proofs.Resting.Linked.{link-to}
use Rattle.bridge.proofs.Resting.Meets.{v-some, due-meets, due-fires}
use Rattle.bridge.specs.Due.{Due}
use Rattle.bridge.proofs.Resting.Searches.{next-due}
use Rattle.ledger.specs.Ledger.{Ledger}
use Rattle.demands.specs.Exactly.{Exactly}
use Rattle.demands.specs.Fires.{Trial, tried_on}
use Rattle.demands.specs.Tidying.{trial_at, rules_of, Firings, rests, spent, next, Stopped, all_spent, at_rest, Ran, Tidies}
use Rattle.demands.proofs.Open.{sound-gate, rest-exactly}
use Rattle.demands.proofs.Second.Due.{link-known}
use Rattle.demands.proofs.Second.Firing.{SameLedger, fire-ledger}
use Rattle.std.specs.Prelude.{Option, Some, None, Ok}

-- A RULE THAT IS DUE is accepted by fire, which does what tidy does
pub due-tried : {t : List ℕ} {c : ℕ} → Whole t c → (v n : ℕ) → Due t c v n
    → tried_on t (trial_at t c v n) ≡ record { answer = accepted (word t change_word) 0 0 0; words = fired_at t c v n }
unfolding fire_of fired fired_at aimed
due-tried {t} {c} w v n d =
    let l = link_to t c v in
    let r = d.rule in
    let h = (link-to w v d.first d.most (v-some (due-meets d.due))).0 in
    let plan : fire_plan t n l.holder (side_number l.side) ≡ Ok (r, (nodes_at t r l v))
    = plan-is w n l.holder (side_number l.side) r l d.is (link-known c l h.most h.root)
    ∙ rw w.sound.header (due-fires w r v d.first d.most d.due) in
    rw (plan, d.is) refl

pub next-fires : {t : List ℕ} {c : ℕ} → Whole t c → (v n : ℕ) → next_of t c ≡ Some (v, n)
    → tried_on t (trial_at t c v n) ≡ record { answer = accepted (word t change_word) 0 0 0; words = fired_at t c v n }
next-fires {t} {c} w v n e = due-tried w v n (next-due t c v n e)

-- the firings of a run with `left` to make, where `made` were
record TidyRun (t : List ℕ) (c left made : ℕ) : Type 0 where
  trials : List Trial
  firings : Firings c t left trials (tidy_from left c t made).words
  count : (tidy_from left c t made).fired ≡ made + length trials
  rules : rules_fired left c t ≡ rules_of trials

none_more : {left : ℕ} {t : List ℕ} {c made : ℕ} → next_of t c ≡ None → TidyRun t c (suc left) made
unfolding tidy_from rules_fired
none_more {left} {t} {c} {made} e =
    let is : tidy_from (suc left) c t made ≡ record { fired = made; words = t } = rw e refl in
    record { trials = []; firings = rw is (rests e); count = rw is (omega arith); rules = rw e refl }

one_more : {left : ℕ} {t : List ℕ} {c made : ℕ} → Whole t c → (v n : ℕ) → next_of t c ≡ Some (v, n)
    → TidyRun (fired_at t c v n) c left (made + 1) → TidyRun t c (suc left) made
unfolding tidy_from rules_fired
one_more {left} {t} {c} {made} w v n e on =
    let is : tidy_from (suc left) c t made ≡ tidy_from left c (fired_at t c v n) (made + 1) = rw e refl in
    let x = trial_at t c v n in
    let y = next-fires w v n e in
    let f : Firings c (tried_on t x).words left on.trials (tidy_from left c (fired_at t c v n) (made + 1)).words
    = rw y on.firings in
    record {
      trials = x ∷ on.trials;
      firings = rw is (next v n e (ap (λ (d : Done). d.answer) y) f);
      count = rw is (omega (arith, on.count));
      rules = rw (e, on.rules) refl;
    }

step : {left : ℕ} {t : List ℕ} {c made : ℕ} → Whole t c → (x : Option (ℕ × ℕ)) → next_of t c ≡ x
    → ((u : List ℕ) → Whole u c → TidyRun u c left (made + 1)) → TidyRun t c (suc left) made
step w None e again = none_more e
step {left} {t} {c} w (Some (v, n)) e again =
    let x = trial_at t c v n in
    let s = fire-ledger w x in
    one_more w v n e (again (fired_at t c v n) (rw (next-fires w v n e) at s.whole))

run : (left : ℕ) {t : List ℕ} {c : ℕ} (made : ℕ) → Whole t c → TidyRun t c left made
unfolding tidy_from rules_fired
run zero {t} {c} made w = record { trials = []; firings = spent; count = omega arith; rules = refl }
run (suc left) {t} {c} made w = step w (next_of t c) refl (λ u v. run left (made + 1) v)

more-spent : {t : List ℕ} {c n budget : ℕ} → Stopped t c n budget → Stopped t c (suc n) (suc budget)
more-spent (all_spent e) = all_spent (ap suc e)
more-spent (at_rest e) = at_rest e

-- by recursion on the firings
firings-on : (c : ℕ) {t t' : List ℕ} {budget : ℕ} {xs : List Trial} → Whole t c → Firings c t budget xs t'
    → Ran t c budget xs t'
unfolding answers after
firings-on c w (rests e) =
    record { table = refl; replies = refl; most = omega arith; stopped = at_rest e; whole = w; ledger = refl }
firings-on c w spent =
    record { table = refl; replies = refl; most = omega arith; stopped = all_spent refl; whole = w; ledger = refl }
firings-on c {t} w (next {xs = xs} v n e a f) =
    let x = trial_at t c v n in
    let s = fire-ledger w x in
    let r = firings-on c s.whole f in
    let same : word (tried_on t x).words change_word ≡ word t change_word = ap (λ (l : Ledger). l.change) s.ledger in
    record {
      table = r.table;
      replies = rw (a, r.replies, same) refl;
      most = omega (arith, r.most);
      stopped = more-spent r.stopped;
      whole = r.whole;
      ledger = r.ledger ∙ s.ledger;
    }

-- WHAT THE FIRINGS COME TO
pub firings-run : {t t' : List ℕ} {c budget : ℕ} {xs : List Trial} → Whole t c → Firings c t budget xs t'
    → Ran t c budget xs t'
firings-run {t} {t'} {c} w f = firings-on c w f

-- the call on a sound table
tidy-opens : {t : List ℕ} {c : ℕ} → Whole t c → (budget : ℕ) → tidy_of t budget ≡ tidied t c (tidy_from budget c t 0)
unfolding tidy_of
tidy-opens w budget = rw (sound-gate w true) refl

-- TIDY IS ITS FIRINGS
pub tidy-is : {t : List ℕ} {c : ℕ} → Whole t c → (budget : ℕ) → Tidies t c budget
unfolding tidied
tidy-is {t} {c} w budget =
    let r = run budget 0 w in
    let is = tidy-opens w budget in
    let words : tidy_table t budget ≡ (tidy_from budget c t 0).words = ap (λ (d : Done). d.words) is in
    let count : (tidy_from budget c t 0).fired ≡ length r.trials = omega (arith, r.count) in
    record {
      trials = r.trials;
      firings = rw words r.firings;
      run = rw words (firings-run w r.firings);
      rules = r.rules;
      answer = ap (λ (d : Done). d.answer) is ∙ rw (count, words) refl;
    }

module _ {t : List ℕ} {c : ℕ} (w : Whole t c) (budget : ℕ) where
  abbrev u : List ℕ
  u = tidy_table t budget

  does : Tidies t c budget
  does = tidy-is w budget

  -- TIDY LEAVES THE LEDGER as it was, whatever the budget
  pub tidy-ledger : SameLedger t c (tidy_of t budget)
  tidy-ledger = record { whole = does.run.whole; ledger = does.run.ledger }

  pub tidy-more : (tidy_answer t budget).more ≡ cond (quiet u c) 1 0
  tidy-more = ap (λ (a : Answer). a.more) does.answer

  at-rest-then : (tidy_answer t budget).more ≡ 1 → quiet u c ≡ true
  at-rest-then e = by_bool (quiet u c) (λ p. p) (λ p. absurd (omega (arith, e, rw p at tidy-more)))

  -- MORE IS 1 EXACTLY IF NO GUARD HOLDS in the tree that is left; a guard that the height limit stops holds too
  pub tidy-rests : Exactly ((tidy_answer t budget).more ≡ 1) (Quiet (tree_in u c))
  tidy-rests =
      let rest = rest-exactly does.run.whole in
      record { whenever = λ q. tidy-more ∙ rw (rest.whenever q) refl; only_if = λ e. rest.only_if (at-rest-then e) }
