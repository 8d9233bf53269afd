-- What a fold says of the two sides of a slot, put together. Assumes nothing.
use Prim.Native.Nat.{ℕ}
use mathlib.Core.Path.{◌≡◌}
use mathlib.Core.List.{List}
use Rattle.scope.specs.Tree.{Tree}
use Rattle.fork.specs.declared.Fork.{Fork}
use Rattle.fork.specs.Hangs.{Forked, Says}
use Rattle.fork.specs.Folds.{Branches, Joins}
use Rattle.fork.proofs.Down.{said_at, says-fork}

module _ {D U : Type 0} {bears : ℕ → D → Type 0} (handed : ℕ → D) {says : D → Tree → U} {t : List ℕ}
    {more x : ℕ} {f : Fork} {l r down : D} {a b : U} (d : Forked t more x f) (borne : bears more down)
    (el : l ≡ handed f.slot.lefth) (er : r ≡ handed f.slot.righth) (sa : Says t f.left (says l) a) (sb : Says t f.right (says r) b) where
  pub sides : Branches bears handed says f down a b
  sides =
      let on_left : a ≡ says l d.on_left.tree = said_at d.on_left (says l) sa in
      let on_right : b ≡ says r d.on_right.tree = said_at d.on_right (says r) sb in
      record {
        t = t;
        more = more;
        x = x;
        fork = d;
        borne = borne;
        on_left = rw el at on_left;
        on_right = rw er at on_right;
      }

  pub said-joined : {q : U} → Joins bears handed says f down a b q → Says t x (says down) q
  unfolding sides
  said-joined j = says-fork (says down) d (j sides)
