-- The walk on words is the walk on the tree that they spell. Assumes nothing.
use Prim.Native.Nat.{ℕ, zero, suc, ◌+◌, ◌≤◌}
use mathlib.Core.Path.{◌≡◌, refl, sym, ap}
use mathlib.Core.Bool.{true, cond}
use mathlib.Core.Option.{Option}
use mathlib.Core.List.{List}
use native.Mathlib.Omega.{arith}
use native.Mathlib.Nat.{add-zero}
use lib.Dec.{eqb, ltb}
use borrow.Author.Tests.{ne_eqb}
use Rattle.scope.proofs.Bools.{by_bool}
use Rattle.scope.specs.Table.{word, slot_at, son, link_at}
use Rattle.scope.specs.Fit.{fit_slot}
use Rattle.scope.specs.Tree.{Batch, Tree, leaf, node, true_height}
use Rattle.scope.specs.Sound.{Spells}
use Rattle.scope.specs.Walk.{step_of, passing, walk_from}
use Rattle.scope.specs.declared.side.Side.{Side}
use Rattle.scope.specs.declared.side.Side.TheVariants.{Left, Right}
use Rattle.scope.specs.declared.side.Link.{Link}
use Rattle.scope.specs.declared.slot.Slot.{Slot}
use Rattle.scope.specs.declared.outcome.Step.TheVariants.{Here, Down}
use Rattle.scope.specs.declared.outcome.Passed.{Passed}
use Rattle.scope.specs.declared.outcome.Walk.TheVariants.{Hit, Miss}
use Rattle.spelling.proofs.Laws.{link-son}
use Rattle.bridge.specs.Leads.{link_along}
use Rattle.tree.specs.Seek.{seek, route, visits, passed_to, sought}

module _ (t : List ℕ) (c key : ℕ) where
  empty : (more : ℕ) (l : Link) (passed : Passed) (seen : ℕ) → walk_from t c key more 0 l passed seen ≡ Miss passed l seen
  unfolding walk_from
  empty zero l passed seen = refl
  empty (suc more) l passed seen = refl

  -- one visit
  module _ (more : ℕ) (l : Link) (passed : Passed) (seen : ℕ) (there : 1 ≤ word t (link_at l)) where
    here : step_of c key (slot_at t (word t (link_at l))) ≡ Here
        → walk_from t c key (suc more) (word t (link_at l)) l passed seen ≡ Hit (word t (link_at l)) l (seen + 1)
    unfolding walk_from
    here e = rw (ne_eqb (word t (link_at l)) 0 (λ q. omega arith), e) refl

    goes : (s : Side) (n : ℕ) (o : Option Batch) (end : Link) (last : Passed)
        → step_of c key (slot_at t (word t (link_at l))) ≡ Down s (son (slot_at t (word t (link_at l))) s)
        → walk_from t c key more (word t (link_at (record { holder = word t (link_at l); side = s })))
        (record { holder = word t (link_at l); side = s }) (passing s (slot_at t (word t (link_at l))).key passed) (seen + 1)
        ≡ sought o end last (seen + 1 + n)
        → walk_from t c key (suc more) (word t (link_at l)) l passed seen ≡ sought o end last (seen + suc n)
    unfolding walk_from
    goes s n o end last e ih =
        let same : seen + 1 + n ≡ seen + suc n = omega arith in
        rw (ne_eqb (word t (link_at l)) 0 (λ q. omega arith), e, ← same)
        (rw (← link-son t (record { holder = word t (link_at l); side = s }) there) ih)

  -- fit slots compare keys
  step_is : (x : Slot) (d : Batch) → fit_slot c x ≡ true → d.key ≡ x.key
      → step_of c key x ≡ cond (eqb key d.key) Here (cond (ltb key d.key) (Down Left x.left) (Down Right x.right))
  unfolding step_of
  step_is x d f e = rw (f, e) refl

  pub walk_is : (T : Tree) (more : ℕ) (l : Link) (passed : Passed) (seen : ℕ)
      → true_height T ≤ more → Spells t c (word t (link_at l)) T
      → walk_from t c key more (word t (link_at l)) l passed seen
      ≡ sought (seek key T) (link_along t (route key T) l) (passed_to key T passed) (seen + visits key T)
  unfolding Spells true_height seek route visits passed_to link_along
  walk_is leaf more l passed seen h p = rw (p, add-zero seen) (empty more l passed seen)
  walk_is (node d a b left right) zero l passed seen h p = absurd (omega arith)
  walk_is (node d a b left right) (suc more) l passed seen h p =
      let x = word t (link_at l) in
      let key-is : d.key ≡ (slot_at t x).key = ap (λ (e : Batch). e.key) p.holds in
      let step = step_is (slot_at t x) d p.fit key-is in
      let is : x ≡ d.slot = ap (λ (e : Batch). e.slot) (sym p.holds) in
      let on : (side : Side) → Link = λ side. record { holder = x; side = side } in
      let last : (side : Side) → Passed = λ side. passing side (slot_at t x).key passed in
      by_bool (eqb key d.key)
      (λ e. simp (e, ← is) (here more l passed seen p.there (simp e at step)))
      (λ e. by_bool (ltb key d.key)
      (λ f. simp (e, f) (rw key-is
      (goes more l passed seen p.there Left (visits key left) (seek key left)
      (link_along t (route key left) (on Left)) (passed_to key left (last Left)) (simp (e, f) at step)
      (walk_is left more (on Left) (last Left) (seen + 1) (omega arith) (rw (link-son t (on Left) p.there) p.left)))))
      (λ f. simp (e, f) (rw key-is
      (goes more l passed seen p.there Right (visits key right) (seek key right)
      (link_along t (route key right) (on Right)) (passed_to key right (last Right)) (simp (e, f) at step)
      (walk_is right more (on Right) (last Right) (seen + 1) (omega arith) (rw (link-son t (on Right) p.there) p.right))))))

-- no walk visits more nodes than the tree is high
pub visits-high : (key : ℕ) (T : Tree) → visits key T ≤ true_height T
unfolding visits true_height
visits-high key leaf = omega arith
visits-high key (node d a b l r) =
    by_bool (eqb key d.key)
    (λ e. simp e (omega arith))
    (λ e. by_bool (ltb key d.key)
    (λ f. simp (e, f) (omega (arith, visits-high key l)))
    (λ f. simp (e, f) (omega (arith, visits-high key r))))
