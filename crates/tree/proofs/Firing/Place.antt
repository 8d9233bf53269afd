-- A firing at the end of a way is one at the top of what hangs there; and each slot has one place. Assumes nothing.
use Prim.Native.Nat.{ℕ, ◌≤◌}
use mathlib.Core.Path.{◌≡◌, refl, sym, ◌∙◌}
use mathlib.Core.Option.{some}
use mathlib.Core.List.{List, [], ◌∷◌}
use native.Mathlib.Omega.{arith}
use native.Mathlib.Decide.{dec_le, ℕ_discrete}
use borrow.Author.Tests.{eq-eqb, ne_eqb}
use Rattle.scope.specs.Tree.{Batch, Tree, leaf, node, times, same}
use Rattle.scope.specs.Rules.{pair}
use Rattle.scope.specs.declared.rule.Pair.{Pair}
use Rattle.scope.specs.declared.side.Side.{Side}
use Rattle.scope.specs.declared.side.Side.TheVariants.{Left, Right}
use Rattle.scope.specs.declared.rule.Rule.{Rule}
use Rattle.tree.specs.Rewrite.{mk, over_near, Test, rewrite_top, rewrite_at}
use Rattle.tree.specs.Place.{subtree, plug}
use Rattle.tree.proofs.Firing.Steps.{no-tree, on-top, top-is, steps, along, from-near}
use Rattle.tree.proofs.Firing.Sides.{times-mk}

-- the son's place is the node's, one step further
module _ (s : Side) (d : Batch) (x : Pair) (near far : Tree) (way : List Side) where
  pub subtree-mk : subtree (s ∷ way) (mk s d x near far) ≡ subtree way near
  unfolding subtree
  subtree-mk = simp top-is

  pub plug-mk : (S : Tree) → plug (s ∷ way) S (mk s d x near far) ≡ over_near s d x (plug way S near) far
  unfolding plug
  plug-mk S = simp top-is

-- a firing on the way's end: from what to what
pub record Placed (test : Test) (r : Rule) (way : List Side) (T T' : Tree) : Type 0 where
  pub from : Tree
  pub to : Tree
  pub there : subtree way T ≡ some from
  pub fires : rewrite_top test r from ≡ some to
  pub put : plug way to T ≡ some T'

module _ (test : Test) (r : Rule) where
  pub placed : (way : List Side) (T T' : Tree) → rewrite_at test way r T ≡ some T' → Placed test r way T T'
  placed =
      along test r (Placed test r)
      (λ T T' x. record {
        from = T;
        to = T';
        there = unfold subtree in refl;
        fires = steps test r T T' x;
        put = unfold plug in refl;
      })
      (λ way s d x near near' far h. record {
        from = h.from;
        to = h.to;
        there = subtree-mk s d x near far way ∙ h.there;
        fires = h.fires;
        put = plug-mk s d x near far way h.to ∙ simp h.put;
      })

  -- the other way round: what fires at the top of what hangs there fires there
  pub fires-there : (way : List Side) (T S S' : Tree) → subtree way T ≡ some S → rewrite_top test r S ≡ some S'
      → (T' : Tree) × (rewrite_at test way r T ≡ some T') × (plug way S' T ≡ some T')
  unfolding subtree rewrite_at plug
  fires-there [] T S S' e f =
      let q : T ≡ S = cc in
      (S', rw q f, refl)
  fires-there (s ∷ way) T S S' e f =
      on-top s T S _ e
      (λ X. (T' : Tree) × (rewrite_at test (s ∷ way) r X ≡ some T') × (plug (s ∷ way) S' X ≡ some T'))
      (λ d x near far q.
      let h = fires-there way near S S' q f in (
        mk s d x h.0 far,
        from-near test way r s d x near h.0 far h.1,
        plug-mk s d x near far way S' ∙ simp h.2,
      ))

-- a slot of a subtree is one of the tree
pub subtree-times : (k : ℕ) (way : List Side) (T S : Tree) → subtree way T ≡ some S → times k S ≤ times k T
unfolding subtree
subtree-times k [] T S e = let q : T ≡ S = cc in rw q (omega arith)
subtree-times k (s ∷ way) T S e =
    on-top s T S _ e (λ X. times k S ≤ times k X)
    (λ d x near far q. omega (arith, subtree-times k way near S q, times-mk s d x near far k))

-- the place of a slot
pub record Stands (k : ℕ) (T : Tree) : Type 0 where
  pub way : List Side
  pub top : Batch
  pub left : ℕ
  pub right : ℕ
  pub in_left : Tree
  pub in_right : Tree
  pub there : subtree way T ≡ some (node top left right in_left in_right)
  pub slot : top.slot ≡ k

further : (k : ℕ) (s : Side) (d : Batch) (x : Pair) (near far : Tree) → Stands k near → Stands k (mk s d x near far)
further k s d x near far h =
    record {
      way = s ∷ h.way;
      top = h.top;
      left = h.left;
      right = h.right;
      in_left = h.in_left;
      in_right = h.in_right;
      there = subtree-mk s d x near far h.way ∙ h.there;
      slot = h.slot;
    }

pub same_none : (j k : ℕ) → (j ≡ k → ⊥) → same j k ≡ 0
same_none j k ne = simp (ne_eqb j k ne)

-- every slot that a tree has stands somewhere in it
pub stands : (k : ℕ) (T : Tree) → 1 ≤ times k T → Stands k T
unfolding times
stands k leaf h = absurd (omega arith)
stands k (node d a b l r) h =
    elim (ℕ_discrete k d.slot) [
      | yes e ↦ record {
        way = [];
        top = d;
        left = a;
        right = b;
        in_left = l;
        in_right = r;
        there = unfold subtree in refl;
        slot = sym e;
      }
      | no ne ↦
          let z = same_none k d.slot ne in
          elim (dec_le 1 (times k l)) [
            | yes i ↦ further k Left d (pair a b) l r (stands k l i)
            | no i ↦ further k Right d (pair b a) r l (stands k r (omega arith))
          ]
    ]

-- slot k is the top's
abbrev Tops : ℕ → Tree → Type 0
Tops k leaf = ⊥
Tops k (node d a b l r) = d.slot ≡ k

same-is : (j k : ℕ) → k ≡ j → same j k ≡ 1
same-is j k e = simp (eq-eqb j k (sym e))

tops-times : (k : ℕ) (T : Tree) → Tops k T → 1 ≤ times k T
unfolding times
tops-times k leaf h = absurd h
tops-times k (node d a b l r) h = omega (arith, same-is k d.slot h)

module _ (k : ℕ) where
  -- a slot at the end of a way is in the tree where the way begins
  within : (way : List Side) (T S : Tree) → subtree way T ≡ some S → Tops k S → 1 ≤ times k T
  within way T S e h = omega (arith, subtree-times k way T S e, tops-times k S h)

  -- and so not the top's too, where it stands once
  not-below : (s : Side) (way : List Side) (T S : Tree) → times k T ≤ 1 → Tops k T → subtree (s ∷ way) T ≡ some S
      → Tops k S → ⊥
  unfolding subtree times
  not-below s way leaf S once h e i = h
  not-below Left way (node d a b l r) S once h e i =
      omega (arith, same-is k d.slot h, within way l S e i)
  not-below Right way (node d a b l r) S once h e i =
      omega (arith, same-is k d.slot h, within way r S e i)

  one_way : (way way' : List Side) (T S S' : Tree) → times k T ≤ 1 → subtree way T ≡ some S → Tops k S
      → subtree way' T ≡ some S' → Tops k S' → way ≡ way'
  unfolding subtree times
  one_way [] [] T S S' once e h f i = refl
  one_way [] (s ∷ way') T S S' once e h f i =
      let q : T ≡ S = cc in absurd (not-below s way' T S' once (rw q h) f i)
  one_way (s ∷ way) [] T S S' once e h f i =
      let q : T ≡ S' = cc in absurd (not-below s way T S once (rw q i) e h)
  one_way (s ∷ way) (s' ∷ way') leaf S S' once e h f i = no-tree e
  one_way (Left ∷ way) (Left ∷ way') (node d a b l r) S S' once e h f i =
      rw (one_way way way' l S S' (omega arith) e h f i)
  one_way (Left ∷ way) (Right ∷ way') (node d a b l r) S S' once e h f i =
      absurd (omega (arith, within way l S e h, within way' r S' f i))
  one_way (Right ∷ way) (Left ∷ way') (node d a b l r) S S' once e h f i =
      absurd (omega (arith, within way r S e h, within way' l S' f i))
  one_way (Right ∷ way) (Right ∷ way') (node d a b l r) S S' once e h f i =
      rw (one_way way way' r S S' (omega arith) e h f i)

-- a slot that a tree has once stands in one place
pub one_place : (k : ℕ) (T : Tree) → times k T ≤ 1 → (x y : Stands k T) → x.way ≡ y.way
one_place k T once x y = one_way k x.way y.way T _ _ once x.there x.slot y.there y.slot
