-- The plant's three demands, each a record with a field for each of its clauses. Assumes nothing: these are statements.
use Rattle.std.specs.Prelude.{ℕ, ◌+◌, ◌*◌, ◌≤◌, ◌<◌, ◌≡◌, true, List, ◌∷◌, length}
use Rattle.std.proofs.Math.Option.{none, some}
use Rattle.scope.specs.Table.{word, count_word, change_word, slot_at}
use Rattle.scope.specs.Sound.{batch_at, tree_in}
use Rattle.scope.specs.Answers.{accepted}
use Rattle.scope.specs.Walk.{walk_of}
use Rattle.scope.specs.Find.{find_answer}
use Rattle.scope.specs.Worth.{worth_answer, largest_carry, largest_balance}
use Rattle.scope.specs.Tidy.{quiet, tidy_answer, tidy_table}
use Rattle.scope.specs.Calls.{Call, answer_of, table_of, answers, after}
use Rattle.spelling.specs.Whole.{Whole}
use Rattle.tree.specs.Shape.{Quiet, Balanced}
use Rattle.ledger.specs.Entries.{lookup}
use Rattle.ledger.specs.Sorted.{Sorted}
use Rattle.ledger.specs.Ledger.{neighbours}
use Rattle.ledger.specs.Neighbours.{Neighbours}
use Rattle.ledger.specs.OfTree.{entry_of}
use Rattle.demands.specs.Exactly.{Exactly}
use Rattle.demands.specs.Listed.{codes_listed, among, Refuses, only_code, LacksKey, CarriesPassed}
use Rattle.demands.specs.Fires.{worth_in, Trial, tried_on, Accepted, fires, accepted_in}
use Rattle.demands.specs.Firing.{FireIs}
use Rattle.demands.specs.Ledgers.{ledger_of}
use Rattle.demands.specs.Sequence.{SameCalls}
use Rattle.demands.specs.Tidying.{StatedOrder, Tidies}
use Rattle.demands.specs.Short.{most_visits, Short}

-- DEMAND 1, of any call x with any arguments, on any words t. The prover shows of every function of the code that it ends
-- and stays within what was lent to it, and no call asks anything of its input; this is what a call answers and leaves
pub record Demand1 (x : Call) (t : List ℕ) : Type 0 where
  -- its code is 0, or one of those that document 01 lists for this call
  pub numbered : among (answer_of x t).code (0 ∷ codes_listed x) ≡ true
  -- the other four numbers of a refusal are zero, except of code 5 for a key
  pub zeros : Refuses x t → (LacksKey x t → ⊥) → answer_of x t ≡ only_code (answer_of x t)
  -- which find, amend and drop give: the walk to that key has missed, value and more are the last keys that it passed below
  -- and above, and the other two numbers are zero
  pub for_key : (l : LacksKey x t) → CarriesPassed t l.key (answer_of x t)
  -- and it leaves every word as it was
  pub unchanged : Refuses x t → table_of x t ≡ t

-- DEMAND 2, of a sound table t of c slots
pub record Demand2 (t : List ℕ) (c : ℕ) : Type 0 where
  -- its ledger, the records from left to right, is sorted by stamp
  pub sorted : Sorted (ledger_of t c).entries
  -- it has the record of every slot that is in use
  pub has : (k : ℕ) → 1 ≤ k → k ≤ c → ((slot_at t k).state ≡ 0 → ⊥)
      → lookup (slot_at t k).key (ledger_of t c).entries ≡ some (entry_of (batch_at t k))
  -- and as many as word 1 counts
  pub count : length (ledger_of t c).entries ≡ word t count_word
  -- any list of calls answers as on the ledger and leaves what it leaves of the ledger. Of what is accepted, slots and how
  -- many were visited are not compared; of the slot of a rank it is the record in it that is. Of worth, fire and tidy, which
  -- a ledger does not know, only what they leave is compared here: what they answer is said below, and in `told` of demand 3
  pub as_list : (xs : List Call) → SameCalls xs t c
  -- what the ledger answers beside 5 for an absent stamp, and by `as-list`, where a refusal is compared whole, find, amend and
  -- drop too, are the nearest stamps: each is there, on its side, or 0 where none is, and no record lies between them
  pub nearest : (key : ℕ) → lookup key (ledger_of t c).entries ≡ none
      → Neighbours key (ledger_of t c).entries (neighbours key (ledger_of t c).entries)
  -- fire takes a rule just where its guard holds and every new height fits a register; then the tree changes as the rule
  -- says, and the records, their slots and the change number stay
  pub fire : (x : Trial) → FireIs t c x (tried_on t x)
  -- of all that fire would take, the next has the lowest slot and there the lowest rule
  pub order : StatedOrder t c
  -- tidy fires the next one again and again, until its budget is spent or there is none
  pub tidy : (budget : ℕ) → Tidies t c budget
  -- and answers 1 for more exactly if no guard holds then
  pub more : (budget : ℕ) → Exactly ((tidy_answer t budget).more ≡ 1) (Quiet (tree_in (tidy_table t budget) c))

-- DEMAND 3, of a sound table t of c slots on which nothing but firings is tried
pub record Demand3 (t : List ℕ) (c : ℕ) : Type 0 where
  -- whatever is tried, the table stays sound, so that all of this holds again
  pub stays : (xs : List Trial) → Whole (after (fires xs) t) c
  -- every firing that is accepted lowers the worth of the tree that the words spell
  pub falls : (x : Trial) → Accepted t x → worth_in (tried_on t x).words c < worth_in t c
  -- so of any list of them at most as many are accepted as the worth was, and what is left of it bounds the worth then
  pub no_more : (xs : List Trial) → accepted_in (answers (fires xs) t) + worth_in (after (fires xs) t) c ≤ worth_in t c
  -- this worth is what the call worth answers
  pub told : worth_answer t ≡ accepted (word t change_word) (worth_in t c) 0 0
  -- and it is no larger than the bound of document 01
  pub bounded : (let T = tree_in t c in let n = word t count_word in
      worth_in t c ≤ 6 * largest_carry T * n * (n + 1) + 3 * largest_balance T * n)
  -- no guard holds at any slot exactly if none holds anywhere in that tree
  pub at_rest : Exactly (quiet t c ≡ true) (Quiet (tree_in t c))
  -- and then every register tells the true height, and the two sides of each node are level or one apart
  pub level : quiet t c ≡ true → Balanced (tree_in t c)
  -- and the walk to any key, hit or miss, visits 16 records or fewer
  pub short : quiet t c ≡ true → (key : ℕ) → Short most_visits (walk_of t c key)
  -- as find says too of a key that is there
  pub find : quiet t c ≡ true → (key : ℕ) → (find_answer t key).code ≡ 0 → (find_answer t key).more ≤ most_visits
