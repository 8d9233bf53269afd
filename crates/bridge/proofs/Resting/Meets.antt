-- Where a rule's test passes on words it passes on the tree: a due rule is fired as on the tree. Assumes nothing.
use Prim.Native.Nat.{ℕ, ◌≤◌}
use mathlib.Core.Path.{◌≡◌, refl}
use mathlib.Core.Bool.{true, false, not, ◌&&◌}
use mathlib.Core.Option.{Option, some}
use mathlib.Core.List.{List}
use native.Mathlib.Omega.{arith}
use lib.Dec.{leb, eqb}
use borrow.Author.Tests.{eqb-false, not-true}
use Rattle.scope.proofs.Bools.{and_l, and_r}
use Rattle.scope.specs.Numbers.{most_height, root_link}
use Rattle.scope.specs.Table.{word, slot_at, link_at}
use Rattle.scope.specs.Tree.{Batch, Tree, leaf}
use Rattle.scope.specs.Sound.{Spells}
use Rattle.scope.specs.Rules.{seen, guard, guard_at, highest_at}
use Rattle.scope.specs.Fire.{has_third, aim}
use Rattle.scope.specs.Tidy.{nodes_at, present, holds_at, due_at, link_to}
use Rattle.scope.specs.declared.rule.Pair.{Pair}
use Rattle.scope.specs.declared.rule.Kind.{Kind}
use Rattle.scope.specs.declared.rule.Kind.TheVariants.{Propagate, Lean, Even, Double}
use Rattle.scope.specs.declared.rule.Rule.{Rule}
use Rattle.scope.specs.declared.side.Side.{Side}
use Rattle.scope.specs.declared.side.Link.{Link}
use Rattle.scope.specs.declared.outcome.Nodes.{Nodes}
use Rattle.spelling.specs.Whole.{Whole}
use Rattle.tree.specs.Rewrite.{mk, rule_on, Test, rewrite_top, rewrite_at, within, fire_at, accept_at}
use Rattle.tree.specs.Step.{Step, propagates, leans, evens, doubles}
use Rattle.tree.proofs.Firing.Steps.{by_side, steps}
use Rattle.tree.proofs.Firing.Place.{placed, fires-there}
use Rattle.bridge.specs.Below.{Hangs}
use Rattle.bridge.specs.Alike.{Alike}
use Rattle.bridge.specs.Fired.{Fired}
use Rattle.bridge.specs.Leads.{link_along, Leads}
use Rattle.bridge.proofs.Links.Looks.{look}
use Rattle.bridge.proofs.Firing.Turns.{look-v, look-u}
use Rattle.bridge.proofs.Firing.Twice.{look-w}
use Rattle.bridge.proofs.Firing.Along.{hangs-along}
use Rattle.bridge.proofs.Firing.Fires.{hangs-root, same_way}
use Rattle.bridge.proofs.Links.Held.{way-to}
use Rattle.bridge.proofs.Resting.Linked.{link-to}
use Rattle.bridge.proofs.Resting.Dues.{FiresDue, fires-so}
use Rattle.std.specs.Prelude.{Result, Ok, Err}
use Rattle.scope.specs.declared.answer.Refusal.{Refusal}

-- the nodes of rule r at slot v are there and pass a test
pub record Meets (test : Test) (t : List ℕ) (c : ℕ) (r : Rule) (v : ℕ) : Type 0 where
  pub there : present c (nodes_at t r root_link v) ≡ true
  pub passes : (let n = nodes_at t r root_link v in
      test r.kind (seen r.side n.sv) (seen r.side n.su) (seen r.side n.sw)) ≡ true

module _ {t : List ℕ} {c : ℕ} {r : Rule} {v : ℕ} where
  pub holds-meets : holds_at t c r v ≡ true → Meets guard t c r v
  unfolding holds_at guard_at
  holds-meets e = record { there = and_l _ _ e; passes = and_r (present c (nodes_at t r root_link v)) _ e }

  pub due-meets : due_at t c r v ≡ true → Meets (within most_height) t c r v
  unfolding due_at highest_at holds_at guard_at
  due-meets e =
      let h = holds-meets (and_l _ _ e) in
      record { there = h.there; passes = rw h.passes (and_r (holds_at t c r v) _ e) }

-- so v holds a record, and u and w are slots
module _ {test : Test} {t : List ℕ} {c : ℕ} {r : Rule} {v : ℕ} (m : Meets test t c r v) where
  pub v-some : (slot_at t v).state ≡ 0 → ⊥
  v-some = eqb-false _ _ (not-true _ (and_l _ _ (and_l _ _ m.there)))

  u-some : (nodes_at t r root_link v).u ≡ 0 → ⊥
  u-some = eqb-false _ _ (not-true _ (and_l _ _ (and_r (not (eqb (slot_at t v).state 0)) _ (and_l _ _ m.there))))

  w-some : (nodes_at t r root_link v).w ≡ 0 → ⊥
  w-some =
      let n = nodes_at t r root_link v in
      let before = not (eqb (slot_at t v).state 0) && (not (eqb n.u 0) && leb n.u c) in
      eqb-false _ _ (not-true _ (and_l _ _ (and_r before _ m.there)))

module _ (t : List ℕ) (c : ℕ) (test : Test) (l : Link) where
  -- what passes on words comes out at the top of the tree that hangs there
  abbrev Comes : Rule → Tree → Type 0
  Comes r S = Hangs t c l S → 1 ≤ word t (link_at l) → Meets test t c r (word t (link_at l))
      → (S' : Tree) × (rewrite_top test r S ≡ some S')

  step : {k : Kind} {s : Side} {S S' : Tree} → Step test s k S S'
      → (S'' : Tree) × (rewrite_top test (rule_on k s) S ≡ some S'')
  step {k} {s} {S} {S'} x = (S', steps test (rule_on k s) S S' x)

  comes-three : (s : Side) (dv du dw : Batch) (v u w : Pair) (m e f far : Tree)
      → Comes (rule_on Double s) (mk s dv v (mk s du u m (mk s dw w e f)) far)
  comes-three s dv du dw v u w m e f far h i a =
      let lv = look-v l s dv du v u m (mk s dw w e f) far h in
      let lu = look-u l s dv du v u m (mk s dw w e f) far h in
      let lw = look-w l s dv du dw v u w m e f far h in
      step (doubles dv du dw v u w m e f far (rw (lv.registers, lu.registers, lw.registers) a.passes))

  passes-two : (k : Kind) → has_third k ≡ false → (s : Side) (dv du : Batch) (v u : Pair) (m n far : Tree)
      → Hangs t c l (mk s dv v (mk s du u m n) far) → Meets test t c (rule_on k s) (word t (link_at l))
      → test k v u u ≡ true
  passes-two k e s dv du v u m n far h a =
      rw ((look-v l s dv du v u m n far h).registers, (look-u l s dv du v u m n far h).registers) (rw e at a.passes)

  comes-two : (k : Kind) (s : Side) (dv du : Batch) (v u : Pair) (m n far : Tree)
      → Comes (rule_on k s) (mk s dv v (mk s du u m n) far)
  unfolding Spells
  comes-two Propagate s dv du v u m n far =
      λ h i a. step (propagates dv du v u m n far (passes-two Propagate refl s dv du v u m n far h a))
  comes-two Lean s dv du v u m n far =
      λ h i a. step (leans dv du v u m n far (passes-two Lean refl s dv du v u m n far h a))
  comes-two Even s dv du v u m n far =
      λ h i a. step (evens dv du v u m n far (passes-two Even refl s dv du v u m n far h a))
  comes-two Double s dv du v u m n far =
      by_side s (λ N. Comes (rule_on Double s) (mk s dv v (mk s du u m N) far)) n
      (λ h i a. absurd (w-some a (look-u l s dv du v u m leaf far h).far_son))
      (λ dw w e f. comes-three s dv du dw v u w m e f far)

  comes : (r : Rule) (S : Tree) → Comes r S
  unfolding Spells
  comes r S =
      by_side r.side (Comes r) S (λ h i a. absurd (omega (arith, h.spells)))
      (λ dv v near far. by_side r.side (λ N. Comes r (mk r.side dv v N far)) near
      (λ h i a. absurd (u-some a (look t c (word t (link_at l)) dv v leaf far r.side h.spells).near_son))
      (λ du u m n. comes-two r.kind r.side dv du v u m n far))

-- a firing that comes out on the tree does so on words
fires-out : (t : List ℕ) (Q : Tree → List ℕ → Type 0) (g : Option Tree) (T : Tree) {X : Type 0} (f : Result (Rule × Nodes) Refusal)
    → Alike t Q g (some T) f → ((q : Rule) (n : Nodes) → f ≡ Ok (q, n) → X) → X
fires-out t Q g T (Err why) a k = absurd a
fires-out t Q g T (Ok (q, n)) a k = k q n refl

module _ {t : List ℕ} {c : ℕ} (w : Whole t c) (r : Rule) where
  abbrev T : Tree
  T = w.sound.tree

  -- WHAT PASSES AT A SLOT passes at the end of a way to it
  pub meets-there : (test : Test) (v : ℕ) → 1 ≤ v → v ≤ c → Meets test t c r v
      → (p : Leads t root_link T (link_to t c v)) × (T' : Tree) × (rewrite_at test p.way r T ≡ some T')
  meets-there test v i j m =
      let h = link-to w v i j (v-some m) in
      let p = way-to w (link_to t c v) h.0 (rw h.1 i) in
      let k = rw p.ends at (hangs-along p.way root_link T p.tree (hangs-root w) p.there) in
      let o = comes t c test (link_to t c v) r p.tree k (rw h.1 i) (rw h.1 m) in
      let f = fires-there test r p.way T p.tree o.0 p.there o.1 in
      (p, f.0, f.1)

  -- A DUE RULE IS FIRED at the slot's link, with the slot's nodes
  pub due-fires : (v : ℕ) → 1 ≤ v → v ≤ c → due_at t c r v ≡ true
      → aim t c r (link_to t c v) ≡ Ok (r, (nodes_at t r (link_to t c v) v))
  due-fires v i j e =
      let m = due-meets e in
      let o = meets-there (within most_height) v i j m in
      let a = rw o.2 at (same_way w r (link_to t c v) o.0) in
      let f : FiresDue t c r (link_to t c v)
      = fires-out t (λ T' t'. Fired t t' c T T') (fire_at o.0.way r T) o.1 (aim t c r (link_to t c v)) a
      (λ q n x. fires-so q n t c r (link_to t c v) x) in
      rw (link-to w v i j (v-some m)).1 at f.is

  -- AND WHAT IS ACCEPTED ON THE TREE is due at the slot there
  pub accepts-due : (way : List Side) (T' : Tree) → accept_at way r T ≡ some T'
      → FiresDue t c r (link_along t way root_link) × (word t (link_at (link_along t way root_link)) ≤ c)
  accepts-due way T' e =
      let p = placed (within most_height) r way T T' e in
      let l = link_along t way root_link in
      let lead : Leads t root_link T l = record { way = way; tree = p.from; there = p.there; ends = refl } in
      let a = rw e at (same_way w r l lead) in
      let h = hangs-along way root_link T p.from (hangs-root w) p.there in (
        fires-out t (λ U t'. Fired t t' c T U) (fire_at way r T) T' (aim t c r l) a
            (λ q n x. fires-so q n t c r l x),
        h.most,
      )
