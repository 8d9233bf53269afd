-- Quiet is balanced with true registers; and where a tree is not quiet, some firing keeps the limit. Assumes nothing.
use Prim.Native.Nat.{ℕ, ◌+◌, ◌≤◌, ◌<◌}
use mathlib.Core.Path.{◌≡◌, refl, sym, ◌∙◌}
use mathlib.Core.Bool.{Bool, true, ◌&&◌}
use mathlib.Core.Option.{none, some}
use mathlib.Core.List.{List, [], ◌∷◌}
use native.Mathlib.Omega.{arith}
use native.Mathlib.Decide.{dec_le, dec_lt, ℕ_discrete}
use lib.Dec.{leb}
use borrow.Author.Tests.{le-leb}
use Rattle.scope.specs.Numbers.{most_height}
use Rattle.scope.specs.Tree.{Batch, Tree, leaf, node, true_height}
use Rattle.scope.specs.Rules.{pair, localh, guard, highest}
use Rattle.scope.specs.declared.rule.Pair.{Pair}
use Rattle.scope.specs.declared.side.Side.{Side}
use Rattle.scope.specs.declared.side.Side.TheVariants.{Left, Right}
use Rattle.scope.specs.declared.rule.Kind.{Kind}
use Rattle.scope.specs.declared.rule.Kind.TheVariants.{Propagate, Lean, Even, Double}
use Rattle.scope.specs.declared.rule.Rule.{Rule}
use Rattle.scope.proofs.Bools.{and_l}
use Rattle.tree.specs.Weight.{top_height}
use Rattle.tree.specs.Rewrite.{mk, rule_on, rewrite_at, fire_at, within, accept_at}
use Rattle.tree.specs.Step.{Step, propagates, leans, evens, doubles}
use Rattle.tree.specs.Shape.{Beside, Relaxed, Level, Balanced, Quiet}
use Rattle.tree.proofs.Firing.Guards.{propagate-says, lean-says, even-says, double-says}
use Rattle.tree.proofs.Firing.Guards.{propagate-holds, lean-holds, even-holds, double-holds}
use Rattle.tree.proofs.Firing.Steps.{by_side, no-tree, none-there, steps, along, anywhere, from-near}
use Rattle.tree.proofs.Firing.Sides.{top-mk, each_in}

-- in a balanced tree the local height is the true one
balanced-top : (T : Tree) → Balanced T → top_height T ≡ true_height T
unfolding top_height true_height
balanced-top leaf h = refl
balanced-top (node d a b l r) h = omega arith

balanced-local : (s : Side) (d : Batch) (x : Pair) (near far : Tree) → Balanced (mk s d x near far)
    → localh x ≡ true_height (mk s d x near far)
balanced-local s d x near far h = sym (top-mk s d x near far) ∙ balanced-top _ h

-- a balanced tree is quiet: no step is there at the top, nor below it
balanced-still : (s : Side) (k : Kind) (T T' : Tree) → Step guard s k T T' → Balanced T → ⊥
balanced-still s k T T' (propagates dv du v u m n c g) h =
    let x = each_in s _ _ _ _ Level h in
    propagate-says v u u g (x.near.0 ∙ sym (balanced-local s du u m n x.in_near))
balanced-still s k T T' (leans dv du v u m n c g) h =
    let x = each_in s _ _ _ _ Level h in omega (arith, lean-says v u u g, x.near.1)
balanced-still s k T T' (evens dv du v u m n c g) h =
    let x = each_in s _ _ _ _ Level h in omega (arith, even-says v u u g, x.near.1)
balanced-still s k T T' (doubles dv du dw v u w m e f c g) h =
    let x = each_in s _ _ _ _ Level h in omega (arith, double-says v u w g, x.near.1)

pub balanced-quiet : (T : Tree) → Balanced T → Quiet T
balanced-quiet T h way r =
    none-there (fire_at way r T)
    (λ T' e. anywhere guard (λ T T'. Balanced T → ⊥) balanced-still
    (λ s d x near near' far k h. k (each_in s _ _ _ _ Level h).in_near) way r T T' e h)

-- either a statement holds, or some firing of the tree writes no height above the limit
data Or (A : Type 0) (limit : ℕ) (T : Tree) : Type 0 where
  held : A → Or A limit T
  due : (way : List Side) (r : Rule) (T' : Tree) → rewrite_at (within limit) way r T ≡ some T' → Or A limit T

module _ (limit : ℕ) where
  within-holds : (g : Bool) (h : ℕ) → g ≡ true → h ≤ limit → (g && leb h limit) ≡ true
  within-holds g h e l = simp (e, le-leb h limit l)

  top-due : {A : Type 0} (s : Side) (k : Kind) (T T' : Tree) → Step (within limit) s k T T' → Or A limit T
  top-due s k T T' x = due [] (rule_on k s) T' (unfold rewrite_at in steps (within limit) (rule_on k s) T T' x)

  -- v is two higher on the near side, over a reliable u: one of the three rotations is due
  module _ {A : Type 0} (s : Side) (dv du : Batch) (v u : Pair) (m c : Tree) (e : v.near ≡ localh u)
      (h : v.far + 2 ≤ v.near) (l : v.near ≤ limit) where
    twice : (n : Tree) → u.near < u.far → u.far ≡ true_height n → Balanced n
        → Or A limit (mk s dv v (mk s du u m n) c)
    unfolding true_height
    twice n k =
        by_side s (λ N. u.far ≡ true_height N → Balanced N → Or A limit (mk s dv v (mk s du u m N) c)) n
        (λ t _. absurd (omega arith))
        (λ dw w a b t i.
        let f : u.far ≡ localh w = t ∙ sym (balanced-local s dw w a b i) in
        top-due s Double _ _ (doubles dv du dw v u w m a b c
        (within-holds (guard Double v u w) (highest Double v u w) (double-holds v u w e h k f) (omega arith))))

    turns : (n : Tree) → u.far ≡ true_height n → Balanced n → Or A limit (mk s dv v (mk s du u m n) c)
    turns n t i =
        elim (dec_lt u.near u.far) [
          | yes lt ↦ twice n lt t i
          | no ge ↦ elim (dec_lt u.far u.near) [
            | yes gt ↦ top-due s Lean _ _ (leans dv du v u m n c
                (within-holds (guard Lean v u u) (highest Lean v u u) (lean-holds v u u e h gt) (omega arith)))
            | no le ↦ top-due s Even _ _ (evens dv du v u m n c
                (within-holds (guard Even v u u) (highest Even v u u) (even-holds v u u e h (omega arith))
                (omega arith)))
          ]
        ]

  -- over a balanced near son: the near register is right and not two more than the far one, or a firing is due
  side : (s : Side) (dv : Batch) (v : Pair) (near far : Tree) → Beside v.near near → Balanced near
      → true_height near ≤ limit → Or (Level v.near v.far near) limit (mk s dv v near far)
  unfolding true_height
  side s dv v near far =
      by_side s
      (λ N. Beside v.near N → Balanced N → true_height N ≤ limit
      → Or (Level v.near v.far N) limit (mk s dv v N far))
      near
      (λ b _ _. held (omega arith))
      (λ du u m n _ i l.
      let t = balanced-local s du u m n i in
      let y = each_in s _ _ _ _ Level i in
      elim (ℕ_discrete v.near (localh u)) [
        | no ne ↦ top-due s Propagate _ _ (propagates dv du v u m n far
            (within-holds (guard Propagate v u u) (highest Propagate v u u) (propagate-holds v u u ne) (omega arith)))
        | yes e ↦ elim (dec_le v.near (v.far + 1)) [
          | yes k ↦ held (e ∙ t, k)
          | no k ↦ turns s dv du v u m far e (omega arith) (omega arith) n y.far.0 y.in_far
        ]
      ])

  both : {A B C : Type 0} {T : Tree} → (A → B → C) → Or A limit T → Or B limit T → Or C limit T
  both f (held a) (held b) = held (f a b)
  both f (held a) (due way r T' e) = due way r T' e
  both f (due way r T' e) y = due way r T' e

  -- one side of a node, by what is known of the son there
  half : (s : Side) (d : Batch) (x : Pair) (near far : Tree) → Beside x.near near → true_height near ≤ limit
      → Or (Balanced near) limit near → Or (Level x.near x.far near × Balanced near) limit (mk s d x near far)
  half s d x near far b l (held i) = both (λ q i. (q, i)) (side s d x near far b i l) (held i)
  half s d x near far b l (due way r N e) =
      due (s ∷ way) r (mk s d x N far) (from-near (within limit) way r s d x near N far e)

  -- from the leaves up: a tree is balanced, or somewhere a firing is due
  settle : (T : Tree) → Relaxed T → true_height T ≤ limit → Or (Balanced T) limit T
  unfolding true_height
  settle leaf h k = held tt
  settle (node d a b l r) h k =
      both (λ x y. record { near = x.0; far = y.0; in_near = x.1; in_far = y.1 })
      (half Left d (pair a b) l r h.near (omega arith) (settle l h.in_near (omega arith)))
      (half Right d (pair b a) r l h.far (omega arith) (settle r h.in_far (omega arith)))

-- what a limit lets through the guard does too
loosened : (limit : ℕ) (s : Side) (k : Kind) (T T' : Tree) → Step (within limit) s k T T' → Step guard s k T T'
loosened limit s k T T' (propagates dv du v u m n c g) = propagates dv du v u m n c (and_l _ _ g)
loosened limit s k T T' (leans dv du v u m n c g) = leans dv du v u m n c (and_l _ _ g)
loosened limit s k T T' (evens dv du v u m n c g) = evens dv du v u m n c (and_l _ _ g)
loosened limit s k T T' (doubles dv du dw v u w m e f c g) = doubles dv du dw v u w m e f c (and_l _ _ g)

pub accepted-fires : (limit : ℕ) (way : List Side) (r : Rule) (T T' : Tree) → rewrite_at (within limit) way r T ≡ some T'
    → fire_at way r T ≡ some T'
accepted-fires limit way r =
    along (within limit) r (λ way T T'. fire_at way r T ≡ some T')
    (λ T T' x. unfold rewrite_at in steps guard r T T' (loosened limit r.side r.kind T T' x))
    (λ way s d x near near' far e. from-near guard way r s d x near near' far e)
    way

-- A QUIET TREE IS BALANCED, and its registers are the true heights
pub quiet-balanced : (T : Tree) → Relaxed T → Quiet T → Balanced T
quiet-balanced T h quiet =
    elim (settle (true_height T) T h (omega arith)) [
      | held i ↦ i
      | due way r T' e ↦ no-tree (sym (quiet way r) ∙ accepted-fires (true_height T) way r T T' e)
    ]

-- TIDYING CANNOT GET STUCK: a tree in which no firing would be accepted is quiet
pub stuck-quiet : (T : Tree) → Relaxed T → true_height T ≤ most_height
    → ((way : List Side) (r : Rule) → accept_at way r T ≡ none) → Quiet T
stuck-quiet T h l stuck =
    elim (settle most_height T h l) [
      | held i ↦ balanced-quiet T i
      | due way r T' e ↦ no-tree (sym (stuck way r) ∙ e)
    ]

-- a firing that a table accepts: where, by which rule, and what comes of it
pub record Accepts (T : Tree) : Type 0 where
  pub way : List Side
  pub rule : Rule
  pub tree : Tree
  pub is : accept_at way rule T ≡ some tree

-- where any guard holds, here is one
pub never_stuck : (T : Tree) → Relaxed T → true_height T ≤ most_height → (way : List Side) (r : Rule) (T' : Tree)
    → fire_at way r T ≡ some T' → Accepts T
never_stuck T h l way r T' e =
    elim (settle most_height T h l) [
      | held i ↦ no-tree (sym (balanced-quiet T i way r) ∙ e)
      | due way r T' e ↦ record { way = way; rule = r; tree = T'; is = e }
    ]
