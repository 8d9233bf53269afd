-- A sound table: the tree that its words spell, how its gates open, how a key is walked to, and when it rests. Assumes nothing.
use Prim.Native.Nat.{ℕ, ◌≤◌}
use mathlib.Core.Path.{◌≡◌, refl, ◌∙◌, ap}
use mathlib.Core.Bool.{Bool, true, cond}
use mathlib.Core.List.{List}
use native.Mathlib.Omega.{arith}
use Rattle.scope.specs.Numbers.{root_link}
use Rattle.scope.specs.Table.{word, change_word, link_at}
use Rattle.scope.specs.Fit.{header_ok}
use Rattle.scope.specs.Tree.{Tree, size}
use Rattle.scope.specs.Sound.{sound_table, tree_in}
use Rattle.scope.specs.Answers.{accepted, gate, answering, code_of}
use Rattle.scope.specs.Walk.{none_passed, walk_of}
use Rattle.scope.specs.Sums.{sound_gate, check_answer}
use Rattle.scope.specs.Worth.{worth_answer}
use Rattle.scope.specs.Tidy.{quiet}
use Rattle.scope.specs.declared.answer.Refusal.{Refusal}
use Rattle.scope.specs.declared.answer.Refusal.TheVariants.{WrongLength, OutOfRange, Damaged, KeyPresent, KeyAbsent}
use Rattle.scope.specs.declared.answer.Refusal.TheVariants.{NoFreeSlot, LastChange, GuardFails, TooHigh, Unreadable}
use Rattle.spelling.specs.Ready.{Sized}
use Rattle.spelling.specs.Whole.{Whole}
use Rattle.spelling.proofs.Laws.{header-count}
use Rattle.spelling.proofs.Exact.{sound-test}
use Rattle.spelling.proofs.Spell.{tree-in}
use Rattle.spelling.proofs.Opened.{opened}
use Rattle.tree.specs.Seek.{seek, route, visits, passed_to, sought}
use Rattle.tree.specs.Shape.{Quiet}
use Rattle.tree.proofs.Rest.Height.{height-size}
use Rattle.bridge.specs.Leads.{link_along}
use Rattle.bridge.proofs.Firing.Calls.{sized-slots}
use Rattle.bridge.proofs.Records.Seeks.{walk_is}
use Rattle.bridge.proofs.Resting.Quiets.{quiet-tree}
use Rattle.bridge.proofs.Resting.Rests.{quiet-words}
use Rattle.demands.specs.Exactly.{Exactly}
use Rattle.demands.specs.Fires.{worth_in}
use Rattle.std.specs.Prelude.{Result, Ok, Err}

-- a sound table with the tree that its words spell
abbrev pub own_tree : {t : List ℕ} {c : ℕ} → Whole t c → Whole t c
own_tree {t} {c} w =
    let s = w.sound in
    let e : tree_in t c ≡ s.tree = tree-in t c s in
    record {
      sized = w.sized;
      sound = record {
        header = s.header;
        tree = tree_in t c;
        reached = rw e s.reached;
        once = rw e s.once;
        count = rw e s.count;
        order = rw e s.order;
        rest = rw e s.rest;
      };
    }

-- the gate of a call on a table that passes its third test: open, or shut where an argument is out of range
pub gate-is : {t : List ℕ} {c : ℕ} (whole : ℕ → Bool) → Sized t c → whole c ≡ true → (good : Bool)
    → gate t good whole ≡ cond good (Ok c) (Err OutOfRange)
unfolding gate
gate-is whole z h good = rw (sized-slots z, h) refl

module _ {t : List ℕ} {c : ℕ} (w : Whole t c) where
  pub header-gate : (good : Bool) → gate t good (λ n. header_ok n t) ≡ cond good (Ok c) (Err OutOfRange)
  header-gate = gate-is (λ n. header_ok n t) w.sized w.sound.header

  pub sound-gate : (good : Bool) → sound_gate t good ≡ cond good (Ok c) (Err OutOfRange)
  sound-gate = gate-is (λ n. sound_table t n) w.sized (sound-test t c w.sound)

-- no refusal has code 0
pub some-code : (why : Refusal) → code_of why ≡ 0 → ⊥
some-code WrongLength e = omega arith
some-code OutOfRange e = omega arith
some-code Damaged e = omega arith
some-code KeyPresent e = omega arith
some-code KeyAbsent e = omega arith
some-code NoFreeSlot e = omega arith
some-code LastChange e = omega arith
some-code GuardFails e = omega arith
some-code TooHigh e = omega arith
some-code Unreadable e = omega arith

-- check says 0 on sound tables
pub check-whole : {t : List ℕ} {c : ℕ} → Whole t c → check_answer t ≡ accepted (word t change_word) 0 0 0
unfolding check_answer
check-whole w = rw (sound-gate w true) refl

-- and on no others
pub record Sounds (t : List ℕ) : Type 0 where
  pub slots : ℕ
  pub whole : Whole t slots

checked : (t : List ℕ) (g : Result ℕ Refusal) → sound_gate t true ≡ g
    → (answering g (λ c. accepted (word t change_word) 0 0 0)).code ≡ 0 → Sounds t
checked t (Err why) q e = absurd (some-code why e)
checked t (Ok c) q e = record { slots = c; whole = opened t true c refl q }

pub check-sounds : (t : List ℕ) → (check_answer t).code ≡ 0 → Sounds t
unfolding check_answer
check-sounds t e = checked t (sound_gate t true) refl e

-- the call worth tells the worth of the tree that the words spell
pub worth-told : {t : List ℕ} {c : ℕ} → Whole t c → worth_answer t ≡ accepted (word t change_word) (worth_in t c) 0 0
unfolding worth_answer
worth-told w = rw (sound-gate w true) refl

module _ {t : List ℕ} {c : ℕ} (w : Whole t c) where
  abbrev T : Tree
  T = w.sound.tree

  -- no tree is larger than its table
  pub tree-small : size T ≤ c
  tree-small = omega (arith, w.sound.count, header-count c t w.sound.header)

  -- the walk of a key is the walk on the tree: it never meets damage
  pub walk-tree : (key : ℕ) → walk_of t c key
      ≡ sought (seek key T) (link_along t (route key T) root_link) (passed_to key T none_passed) (visits key T)
  unfolding walk_of link_at
  walk-tree key =
      walk_is t c key T c root_link none_passed 0 (omega (arith, height-size T, tree-small)) w.sound.reached
      ∙ ap (sought (seek key T) (link_along t (route key T) root_link) (passed_to key T none_passed)) (omega arith)

-- NO GUARD HOLDS on the words exactly if none holds in the tree that they spell
pub rest-exactly : {t : List ℕ} {c : ℕ} → Whole t c → Exactly (quiet t c ≡ true) (Quiet (tree_in t c))
rest-exactly w = record { whenever = quiet-words (own_tree w); only_if = quiet-tree (own_tree w) }
