-- Demand 3: where no guard holds, the registers are true, the tree is balanced, and every walk ends within 16 visits. Assumes nothing.
use Prim.Native.Nat.{ℕ, ◌≤◌}
use mathlib.Core.Path.{◌≡◌}
use mathlib.Core.Bool.{true, not}
use mathlib.Core.Option.{Option, none, some}
use mathlib.Core.List.{List}
use native.Mathlib.Omega.{arith}
use lib.Dec.{eqb}
use Rattle.scope.proofs.Bools.{by_bool}
use Rattle.scope.specs.Numbers.{root_link}
use Rattle.scope.specs.Table.{word, root_word}
use Rattle.scope.specs.Tree.{Batch, true_height}
use Rattle.scope.specs.Sound.{tree_in}
use Rattle.scope.specs.Walk.{none_passed, walk_of}
use Rattle.scope.specs.Find.{found_in, find_answer}
use Rattle.scope.specs.Tidy.{quiet}
use Rattle.scope.specs.declared.side.Link.{Link}
use Rattle.scope.specs.declared.outcome.Passed.{Passed}
use Rattle.scope.specs.declared.outcome.Walk.{Walk}
use Rattle.spelling.specs.Whole.{Whole}
use Rattle.tree.specs.Seek.{seek, route, visits, passed_to, sought}
use Rattle.tree.specs.Shape.{Balanced}
use Rattle.tree.proofs.Rest.Quiet.{quiet-balanced}
use Rattle.tree.proofs.Rest.Height.{balanced-height}
use Rattle.bridge.specs.Leads.{link_along}
use Rattle.bridge.proofs.Records.Seeks.{visits-high}
use Rattle.bridge.proofs.Resting.Quiets.{relaxed}
use Rattle.demands.specs.Short.{most_visits, Short, hit, miss}
use Rattle.demands.proofs.Open.{own_tree, header-gate, tree-small, walk-tree, rest-exactly}

-- a walk that visits so many slots, whatever it finds
short : (most : ℕ) (o : Option Batch) (l : Link) (p : Passed) (n : ℕ) → n ≤ most → Short most (sought o l p n)
short most none l p n h = miss h
short most (some d) l p n h = hit h

module _ {t : List ℕ} {c : ℕ} (w : Whole t c) (q : quiet t c ≡ true) where
  -- AT REST EACH REGISTER IS THE TRUE HEIGHT, and no two sides of a node differ by more than one
  pub rest-balanced : Balanced (tree_in t c)
  rest-balanced =
      quiet-balanced (tree_in t c) (relaxed t c (word t root_word) (tree_in t c) (own_tree w).sound.reached)
      ((rest-exactly w).only_if q)

  low : true_height (tree_in t c) ≤ most_visits
  low =
      omega (arith, balanced-height (tree_in t c) rest-balanced (omega (arith, tree-small (own_tree w), w.sized.most)))

  -- AT REST NO WALK VISITS MORE THAN 16 SLOTS, hit or miss
  pub walk-16 : (key : ℕ) → Short most_visits (walk_of t c key)
  walk-16 key =
      let T = tree_in t c in
      rw (walk-tree (own_tree w) key)
      (short most_visits (seek key T) (link_along t (route key T) root_link) (passed_to key T none_passed) (visits key T)
      (omega (arith, visits-high key T, low)))

  short-more : (x : Walk) → Short most_visits x → (found_in t x).code ≡ 0 → (found_in t x).more ≤ most_visits
  unfolding found_in
  short-more x (hit h) e = h
  short-more x (miss h) e = absurd (omega (arith, e))

  -- and so says find, of a key that is there
  pub find-16 : (key : ℕ) → (find_answer t key).code ≡ 0 → (find_answer t key).more ≤ most_visits
  unfolding find_answer
  find-16 key =
      rw (header-gate w (not (eqb key 0)))
      (by_bool (eqb key 0) (λ e. rw e (λ z. omega arith)) (λ e. rw e (short-more (walk_of t c key) (walk-16 key))))
