-- What tidy does, as a list of calls of fire. Assumes nothing: these are definitions.
use Rattle.std.specs.Prelude.{ℕ, suc, ◌≤◌, ◌≡◌, cond, List, [], ◌∷◌, map, length}
use Rattle.scope.specs.Table.{word, change_word}
use Rattle.scope.specs.Answers.{accepted}
use Rattle.scope.specs.Tidy.{link_to, next_of, quiet, rules_fired, tidy_answer, tidy_table}
use Rattle.scope.specs.Calls.{answers, after}
use Rattle.spelling.specs.Whole.{Whole}
use Rattle.bridge.specs.Due.{Due, NotAfter}
use Rattle.demands.specs.Exactly.{Exactly}
use Rattle.demands.specs.Fires.{Trial, tried_on, Accepted, fires}
use Rattle.demands.specs.Ledgers.{ledger_of}
use Rattle.bridge.specs.Leads.{side_number}
use Rattle.std.specs.Prelude.{Some, None}

-- the numbers of rule n at slot v, which hangs at a link of the table
abbrev pub trial_at : List ℕ → ℕ → ℕ → ℕ → Trial
trial_at t c v n = record { rule = n; holder = (link_to t c v).holder; side = side_number (link_to t c v).side }

-- the rules of such calls
abbrev pub rules_of : List Trial → List ℕ
rules_of xs = map (λ x. x.rule) xs

-- a call of fire that names a rule which is due at a slot, and the link where that slot hangs
pub record DueTrial (t : List ℕ) (c : ℕ) (x : Trial) : Type 0 where
  pub slot : ℕ
  pub due : Due t c slot x.rule
  pub is : x ≡ trial_at t c slot x.rule

-- the stated order on a table: which calls of fire are accepted, and which of them is next
pub record StatedOrder (t : List ℕ) (c : ℕ) : Type 0 where
  -- fire is accepted exactly if its rule is due at the slot that hangs at its link
  pub due : (x : Trial) → Exactly (Accepted t x) (DueTrial t c x)
  -- the next one is accepted, and comes before all others: the lowest slot, and there the lowest rule
  pub taken : (v n : ℕ) → next_of t c ≡ Some (v, n) → Accepted t (trial_at t c v n)
  pub first : (v n : ℕ) → next_of t c ≡ Some (v, n) → (x : Trial) (d : DueTrial t c x) → NotAfter v n d.slot x.rule
  -- where there is no next one, none is accepted
  pub at_end : next_of t c ≡ None → (x : Trial) → Accepted t x → ⊥

-- the calls xs of fire lead from t to t': each is of the rule that is next, each is accepted, and they end
-- where the budget is spent or no rule is due
pub data Firings (c : ℕ) : List ℕ → ℕ → List Trial → List ℕ → Type 0 where
  rests : {t : List ℕ} {budget : ℕ} → next_of t c ≡ None → Firings c t budget [] t
  spent : {t : List ℕ} → Firings c t 0 [] t
  next : {t t' : List ℕ} {budget : ℕ} {xs : List Trial} (v n : ℕ) → next_of t c ≡ Some (v, n)
      → (tried_on t (trial_at t c v n)).answer ≡ accepted (word t change_word) 0 0 0
      → Firings c (tried_on t (trial_at t c v n)).words budget xs t' → Firings c t (suc budget) (trial_at t c v n ∷ xs) t'

-- why they ended: the budget is spent, or no rule is due
pub data Stopped (t : List ℕ) (c made budget : ℕ) : Type 0 where
  all_spent : made ≡ budget → Stopped t c made budget
  at_rest : next_of t c ≡ None → Stopped t c made budget

-- what such calls come to: the table, that each was accepted, how many, why they ended, and the ledger
pub record Ran (t : List ℕ) (c budget : ℕ) (xs : List Trial) (t' : List ℕ) : Type 0 where
  pub table : after (fires xs) t ≡ t'
  pub replies : answers (fires xs) t ≡ map (λ x. accepted (word t change_word) 0 0 0) xs
  pub most : length xs ≤ budget
  pub stopped : Stopped t' c (length xs) budget
  pub whole : Whole t' c
  pub ledger : ledger_of t' c ≡ ledger_of t c

-- a call of tidy: the calls of fire that it comes to, whose rules are those that `scope` lists, and its answer; the last
-- number says whether no guard holds
pub record Tidies (t : List ℕ) (c budget : ℕ) : Type 0 where
  pub trials : List Trial
  pub firings : Firings c t budget trials (tidy_table t budget)
  pub run : Ran t c budget trials (tidy_table t budget)
  pub rules : rules_fired budget c t ≡ rules_of trials
  pub answer : tidy_answer t budget
      ≡ accepted (word t change_word) (length trials) (cond (quiet (tidy_table t budget) c) 1 0) 0
