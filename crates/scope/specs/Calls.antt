-- The eleven calls as one type, and a list of them carried out one after the other (document 01, "Calls and what they answer").
use Rattle.std.specs.Prelude.{ℕ, ◌≡◌, List, [], ◌∷◌}
use Rattle.scope.specs.Find.{start_answer, start_table, find_answer}
use Rattle.scope.specs.Post.{post_answer, post_table}
use Rattle.scope.specs.Amend.{amend_answer, amend_table}
use Rattle.scope.specs.Drop.{drop_answer, drop_table}
use Rattle.scope.specs.Sums.{check_answer, rank_answer, total_answer}
use Rattle.scope.specs.Worth.{worth_answer}
use Rattle.scope.specs.Fire.{fire_answer, fire_table}
use Rattle.scope.specs.Tidy.{tidy_answer, tidy_table}
use Rattle.scope.specs.declared.answer.Answer.{Answer}

pub data Call : Type 0 where
  Start : Call
  Check : Call
  Find : ℕ → Call
  Post : ℕ → ℕ → ℕ → Call
  Amend : ℕ → ℕ → ℕ → Call
  Drop : ℕ → Call
  Rank : ℕ → Call
  Total : ℕ → Call
  Worth : Call
  Fire : ℕ → ℕ → ℕ → Call
  Tidy : ℕ → Call

-- what each call answers
abbrev pub answer_of : Call → List ℕ → Answer
answer_of Start t = start_answer t
answer_of Check t = check_answer t
answer_of (Find key) t = find_answer t key
answer_of (Post key pieces state) t = post_answer t key pieces state
answer_of (Amend key pieces state) t = amend_answer t key pieces state
answer_of (Drop key) t = drop_answer t key
answer_of (Rank r) t = rank_answer t r
answer_of (Total K) t = total_answer t K
answer_of Worth t = worth_answer t
answer_of (Fire rule holder side) t = fire_answer t rule holder side
answer_of (Tidy budget) t = tidy_answer t budget

-- the table after each call; five of them only answer
abbrev pub table_of : Call → List ℕ → List ℕ
table_of Start t = start_table t
table_of Check t = t
table_of (Find key) t = t
table_of (Post key pieces state) t = post_table t key pieces state
table_of (Amend key pieces state) t = amend_table t key pieces state
table_of (Drop key) t = drop_table t key
table_of (Rank r) t = t
table_of (Total K) t = t
table_of Worth t = t
table_of (Fire rule holder side) t = fire_table t rule holder side
table_of (Tidy budget) t = tidy_table t budget

-- what each call promises of its answer r and of the table u that it leaves, for any words and arguments
abbrev pub Promise : Call → List ℕ → Answer → List ℕ → Type 0
Promise x t r u = (r ≡ answer_of x t) × (u ≡ table_of x t)

-- the answers of a list of calls, and the table after all of them
unfoldable pub answers : List Call → List ℕ → List Answer
answers [] t = []
answers (x ∷ xs) t = answer_of x t ∷ answers xs (table_of x t)

unfoldable pub after : List Call → List ℕ → List ℕ
after [] t = t
after (x ∷ xs) t = after xs (table_of x t)
