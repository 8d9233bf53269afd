-- Demand 1: ten of the calls, whatever the words and arguments: accepted, or refused with a listed code. Assumes nothing.
use Prim.Native.Nat.{ℕ, ◌-◌}
use mathlib.Core.Path.{◌≡◌, refl}
use mathlib.Core.Bool.{Bool, true, false, cond, not, ◌&&◌}
use mathlib.Core.List.{List}
use lib.ListN.{length}
use lib.Dec.{eqb, ltb}
use Rattle.scope.proofs.Bools.{neither}
use Rattle.scope.specs.Numbers.{last_change}
use Rattle.scope.specs.Table.{word, count_word, change_word, slots_in, slot_at}
use Rattle.scope.specs.Fit.{blank_slot, header_ok, record_ok}
use Rattle.scope.specs.Answers.{Done, code_of, refused, gate, answering, admit, on_slots}
use Rattle.scope.specs.Walk.{walk_of}
use Rattle.scope.specs.Find.{started, start_of, found_in, find_answer}
use Rattle.scope.specs.Post.{free_slot, hang_at, posting_at, post_plan, posted, post_of, leaf_slot}
use Rattle.scope.specs.Answers.{and_then}
use Rattle.scope.specs.Amend.{amending_at, amend_plan, amended, amend_of}
use Rattle.scope.specs.Answers.{or_denied}
use Rattle.scope.specs.Drop.{leftmost_from, if_may, replacing, drop_at, dropping_at, drop_plan, dropped, drop_of}
use Rattle.scope.specs.Answers.{or_denied}
use Rattle.scope.specs.Sound.{sound_table, tree_in}
use Rattle.scope.specs.Sums.{sound_gate, rank_of, ranked, rank_answer}
use Rattle.scope.specs.Tidy.{tidying, tidy_from, tidied, tidy_of}
use Rattle.scope.specs.Calls.{Call, Start, Find, Post, Amend, Drop, Rank, Tidy}
use Rattle.scope.specs.declared.answer.Answer.{Answer}
use Rattle.scope.specs.declared.answer.Refusal.{Refusal}
use Rattle.scope.specs.declared.answer.Refusal.TheVariants.{WrongLength, OutOfRange, Damaged, KeyPresent, KeyAbsent, NoFreeSlot, LastChange}
use Rattle.scope.specs.declared.slot.Slot.{Slot}
use Rattle.scope.specs.declared.slots.Slots.{Slots}
use Rattle.scope.specs.declared.side.Side.TheVariants.{Right}
use Rattle.scope.specs.declared.side.Link.{Link}
use Rattle.scope.specs.declared.outcome.Passed.{Passed}
use Rattle.scope.specs.declared.outcome.Walk.{Walk}
use Rattle.scope.specs.declared.outcome.Walk.TheVariants.{Hit, Miss, Damage}
use Rattle.scope.specs.declared.outcome.Leftmost.{Leftmost}
use Rattle.scope.specs.declared.outcome.Posting.{Posting}
use Rattle.scope.specs.declared.outcome.Dropping.{Dropping}
use Rattle.scope.specs.declared.outcome.Dropping.TheVariants as dropping-is
use Rattle.demands.specs.Listed.{codes_bare, among, Misses, Answered, accepts, refuses, lacks}
use Rattle.std.specs.Prelude.{Option, Some, None, Result, Ok, Err}
use Rattle.scope.specs.declared.answer.Denial.{Denial}
use Rattle.scope.specs.declared.answer.Denial.TheVariants.{Refused, Absent}

-- what holds of both ends of a test holds of what it comes to
pub either : {A : Type 0} (P : A → Type 0) (b : Bool) {x y : A} → P x → P y → P (cond b x y)
either P true p q = p
either P false p q = q

-- what the plans of post, amend and drop may be
data Posts (listed : List ℕ) : Result Posting Refusal → Type 0 where
  refuse : (why : Refusal) → among (code_of why) listed ≡ true → Posts listed (Err why)
  hang : {k : ℕ} {link : Link} → Posts listed (Ok (record { slot = k; link = link }))

data Amends (listed t : List ℕ) (key : ℕ) : Result ℕ Denial → Type 0 where
  not_amend : (why : Refusal) → among (code_of why) listed ≡ true → Amends listed t key (Err (Refused why))
  no_amend : (m : Misses t key) → Amends listed t key (Err (Absent m.passed))
  change : {k : ℕ} → Amends listed t key (Ok k)

data Drops (listed t : List ℕ) (key : ℕ) : Result Dropping Denial → Type 0 where
  not_drop : (why : Refusal) → among (code_of why) listed ≡ true → Drops listed t key (Err (Refused why))
  no_drop : (m : Misses t key) → Drops listed t key (Err (Absent m.passed))
  lift : {slot son : ℕ} {link : Link} → Drops listed t key (Ok (dropping-is.Lift slot link son))
  replace : {slot least : ℕ} {link : Link} → Drops listed t key (Ok (dropping-is.Replace slot least link))

-- calls that only answer
abbrev only : List ℕ → Answer → Done
only t a = record { answer = a; words = t }

module _ (x : Call) (t : List ℕ) (good : Bool) (whole : ℕ → Bool) (F : Result ℕ Refusal → Done) where
  -- a gate that is shut says why
  by-gate : ((why : Refusal) → F (Err why) ≡ refused t why) → among (code_of WrongLength) (codes_bare x) ≡ true
      → (good ≡ false → among (code_of OutOfRange) (codes_bare x) ≡ true)
      → ((c : ℕ) → whole c ≡ false → among (code_of Damaged) (codes_bare x) ≡ true)
      → ((s : Slots) → slots_in (length t) ≡ Some s → Answered x t (F (Ok s.count)))
      → Answered x t (F (gate t good whole))
  unfolding gate
  by-gate shut one two three within = on (slots_in (length t)) refl
    where
      tests : (s : Slots) (g h : Bool) → good ≡ g → whole s.count ≡ h → slots_in (length t) ≡ Some s
          → Answered x t (F (admit g h s.count))
      tests s true true p q e = within s e
      tests s true false p q e = rw (shut Damaged) (refuses Damaged (three s.count q))
      tests s false h p q e = rw (shut OutOfRange) (refuses OutOfRange (two p))

      on : (s : Option Slots) → slots_in (length t) ≡ s → Answered x t (F (on_slots s (λ c. admit good (whole c) c)))
      on None e = rw (shut WrongLength) (refuses WrongLength one)
      on (Some s) e = tests s good (whole s.count) refl refl e

module _ (t : List ℕ) where
  pub start-answered : Answered Start t (start_of t)
  unfolding start_of
  start-answered =
      by-gate Start t true (λ c. true) (started t)
      (λ why. refl) refl (λ e. neither refl e) (λ c e. neither refl e) (λ s e. accepts refl)

  -- calls that want a sound table and have no argument to test
  pub whole-answered : (x : Call) → among (code_of WrongLength) (codes_bare x) ≡ true → among (code_of Damaged) (codes_bare x) ≡ true
      → (f : ℕ → Answer) → ((c : ℕ) → (f c).code ≡ 0) → Answered x t (only t (answering (sound_gate t true) f))
  whole-answered x one three f h =
      by-gate x t true (λ c. sound_table t c) (λ g. only t (answering g f))
      (λ why. refl) one (λ e. neither refl e) (λ c e. three) (λ s e. accepts (h s.count))

  pub tidy-answered : (budget : ℕ) → Answered (Tidy budget) t (tidy_of t budget)
  unfolding tidy_of tidied
  tidy-answered budget =
      by-gate (Tidy budget) t true (λ c. sound_table t c) (λ g. tidying t g (λ c. tidied t c (tidy_from budget c t 0)))
      (λ why. refl) refl (λ e. neither refl e) (λ c e. refl) (λ s e. accepts refl)

  -- rank and find
  ranked-answered : (r : ℕ) (x : Result ℕ ℕ) → Answered (Rank r) t (only t (ranked t x))
  unfolding ranked
  ranked-answered r (Ok slot) = accepts refl
  ranked-answered r (Err n) = refuses KeyAbsent refl

  pub rank-answered : (r : ℕ) → Answered (Rank r) t (only t (rank_answer t r))
  unfolding rank_answer
  rank-answered r =
      by-gate (Rank r) t (not (eqb r 0)) (λ c. sound_table t c)
      (λ g. only t (answering g (λ c. ranked t (rank_of r (tree_in t c)))))
      (λ why. refl) refl (λ e. refl) (λ c e. refl) (λ s e. ranked-answered r (rank_of r (tree_in t s.count)))

  -- a walk on all the slots of a table that ends with a miss
  abbrev misses_with : (s : Slots) → slots_in (length t) ≡ Some s → (key : ℕ) (link : Link) (passed : Passed) (seen : ℕ)
      → walk_of t s.count key ≡ Miss passed link seen → Misses t key
  misses_with s e key link passed seen q =
      record { slots = s; sized = e; link = link; passed = passed; seen = seen; walk = q }

  found-answered : (s : Slots) → slots_in (length t) ≡ Some s → (key : ℕ) (x : Walk) → walk_of t s.count key ≡ x
      → Answered (Find key) t (only t (found_in t x))
  unfolding found_in
  found-answered s e key (Hit slot link seen) q = accepts refl
  found-answered s e key (Miss passed link seen) q = lacks key refl (misses_with s e key link passed seen q)
  found-answered s e key Damage q = refuses Damaged refl

  pub find-answered : (key : ℕ) → Answered (Find key) t (only t (find_answer t key))
  unfolding find_answer
  find-answered key =
      by-gate (Find key) t (not (eqb key 0)) (λ c. header_ok c t) (λ g. only t (answering g (λ c. found_in t (walk_of t c key))))
      (λ why. refl) refl (λ e. refl) (λ c e. refl) (λ s e. found-answered s e key (walk_of t s.count key) refl)

  -- post: what the walk and the free slot come to
  module _ (key pieces state : ℕ) where
    hang-may : (c : ℕ) (link : Link) (k : ℕ) → Posts (codes_bare (Post key pieces state)) (hang_at t c link k)
    unfolding hang_at
    hang-may c link k =
        either (Posts _) (eqb k 0) (refuse NoFreeSlot refl)
        (either (Posts _) (blank_slot (slot_at t k) && ltb (word t count_word) c)
        (either (Posts _) (ltb (word t change_word) last_change) hang (refuse LastChange refl)) (refuse Damaged refl))

    posting-may : (c : ℕ) (x : Walk) → Posts (codes_bare (Post key pieces state)) (posting_at t c x)
    unfolding posting_at
    posting-may c (Hit slot link seen) = refuse KeyPresent refl
    posting-may c (Miss passed link seen) = hang-may c link (free_slot t c)
    posting-may c Damage = refuse Damaged refl

    posts : (new : Slot) (x : Result Posting Refusal) → Posts (codes_bare (Post key pieces state)) x
        → Answered (Post key pieces state) t (posted t new x)
    unfolding posted
    posts new x (refuse why e) = refuses why e
    posts new x hang = accepts refl

    pub post-answered : Answered (Post key pieces state) t (post_of t key pieces state)
    unfolding post_of post_plan posted
    post-answered =
        by-gate (Post key pieces state) t (record_ok key pieces state) (λ c. header_ok c t)
        (λ g. posted t (leaf_slot key pieces state) (and_then g (λ c. posting_at t c (walk_of t c key))))
        (λ why. refl) refl (λ e. refl) (λ c e. refl) (λ s e. posts (leaf_slot key pieces state) _ (posting-may s.count (walk_of t s.count key)))

    amending-may : (s : Slots) → slots_in (length t) ≡ Some s → (x : Walk) → walk_of t s.count key ≡ x
        → Amends (codes_bare (Amend key pieces state)) t key (amending_at t x)
    unfolding amending_at
    amending-may s e (Hit slot link seen) q = either (Amends _ _ _) (ltb (word t change_word) last_change) change (not_amend LastChange refl)
    amending-may s e (Miss passed link seen) q = no_amend (misses_with s e key link passed seen q)
    amending-may s e Damage q = not_amend Damaged refl

    amends : (x : Result ℕ Denial) → Amends (codes_bare (Amend key pieces state)) t key x
        → Answered (Amend key pieces state) t (amended t pieces state x)
    unfolding amended
    amends x (not_amend why e) = refuses why e
    amends x (no_amend m) = lacks key refl m
    amends x change = accepts refl

    pub amend-answered : Answered (Amend key pieces state) t (amend_of t key pieces state)
    unfolding amend_of amend_plan amended
    amend-answered =
        by-gate (Amend key pieces state) t (record_ok key pieces state) (λ c. header_ok c t)
        (λ g. amended t pieces state (or_denied g (λ c. amending_at t (walk_of t c key))))
        (λ why. refl) refl (λ e. refl) (λ c e. refl) (λ s e. amends _ (amending-may s e (walk_of t s.count key) refl))

  -- drop: as post, and the leftmost on the right
  module _ (key : ℕ) where
    if-may : (x : Result Dropping Denial) → Drops (codes_bare (Drop key)) t key x → Drops (codes_bare (Drop key)) t key (if_may t x)
    unfolding if_may
    if-may x p =
        either (Drops _ _ _) (eqb (word t count_word) 0) (not_drop Damaged refl)
        (either (Drops _ _ _) (ltb (word t change_word) last_change) p (not_drop LastChange refl))

    replacing-may : (slot : ℕ) (x : Option Leftmost) → Drops (codes_bare (Drop key)) t key (replacing t slot x)
    replacing-may slot None = not_drop Damaged refl
    replacing-may slot (Some m) = if-may (Ok (dropping-is.Replace slot m.slot m.link)) replace

    dropping-may : (s : Slots) → slots_in (length t) ≡ Some s → (x : Walk) → walk_of t s.count key ≡ x
        → Drops (codes_bare (Drop key)) t key (dropping_at t s.count x)
    unfolding dropping_at drop_at
    dropping-may s e (Hit slot link seen) q =
        either (Drops _ _ _) (eqb (slot_at t slot).left 0) (if-may (Ok (dropping-is.Lift slot link (slot_at t slot).right)) lift)
        (either (Drops _ _ _) (eqb (slot_at t slot).right 0) (if-may (Ok (dropping-is.Lift slot link (slot_at t slot).left)) lift)
        (replacing-may slot (leftmost_from (s.count - seen) t s.count (slot_at t slot).right (record { holder = slot; side = Right }))))
    dropping-may s e (Miss passed link seen) q = no_drop (misses_with s e key link passed seen q)
    dropping-may s e Damage q = not_drop Damaged refl

    drops : (x : Result Dropping Denial) → Drops (codes_bare (Drop key)) t key x → Answered (Drop key) t (dropped t x)
    unfolding dropped
    drops x (not_drop why e) = refuses why e
    drops x (no_drop m) = lacks key refl m
    drops x lift = accepts refl
    drops x replace = accepts refl

    pub drop-answered : Answered (Drop key) t (drop_of t key)
    unfolding drop_of drop_plan dropped
    drop-answered =
        by-gate (Drop key) t (not (eqb key 0)) (λ c. header_ok c t)
        (λ g. dropped t (or_denied g (λ c. dropping_at t c (walk_of t c key))))
        (λ why. refl) refl (λ e. refl) (λ c e. refl) (λ s e. drops _ (dropping-may s e (walk_of t s.count key) refl))
