-- Where no guard holds on words, none holds in the tree; and registers beside empty links are 0. Assumes nothing.
use Prim.Native.Nat.{ℕ, zero, suc, ◌+◌, ◌≤◌, ◌<◌}
use mathlib.Core.Path.{◌≡◌, refl}
use mathlib.Core.Bool.{Bool, true, false, cond, not, ◌&&◌, ◌||◌}
use mathlib.Core.Option.{some}
use mathlib.Core.List.{List}
use native.Mathlib.Omega.{arith}
use native.Mathlib.Decide.{ℕ_discrete}
use lib.Dec.{leb, eqb}
use borrow.Author.Tests.{ne_eqb, le-leb, eqb-true}
use Rattle.scope.proofs.Bools.{and_r, neither}
use Rattle.scope.specs.Numbers.{other, root_link, rule_of}
use Rattle.scope.specs.Table.{word, slot_at, son, link_at}
use Rattle.scope.specs.Fit.{link_ok}
use Rattle.scope.specs.Tree.{Batch, Tree, leaf, node}
use Rattle.scope.specs.Sound.{Spells}
use Rattle.scope.specs.Rules.{guard, guard_at}
use Rattle.scope.specs.Fire.{has_third}
use Rattle.scope.specs.Tidy.{holds_at, passes, rules_from, slots_from, nothing, quiet}
use Rattle.scope.specs.declared.rule.Pair.{Pair}
use Rattle.scope.specs.declared.rule.Kind.{Kind}
use Rattle.scope.specs.declared.rule.Kind.TheVariants.{Propagate, Lean, Even, Double}
use Rattle.scope.specs.declared.rule.Rule.{Rule}
use Rattle.scope.specs.declared.side.Side.{Side}
use Rattle.scope.specs.declared.side.Side.TheVariants.{Left, Right}
use Rattle.scope.specs.declared.side.Link.{Link}
use Rattle.spelling.proofs.Laws.{fits}
use Rattle.spelling.specs.Whole.{Whole}
use Rattle.tree.specs.Rewrite.{mk, rule_on, fire_at}
use Rattle.tree.specs.Step.{Step, propagates, leans, evens, doubles}
use Rattle.tree.specs.Shape.{Beside, Relaxed, Quiet}
use Rattle.tree.proofs.Firing.Steps.{stepped, none-there}
use Rattle.tree.proofs.Firing.Place.{placed}
use Rattle.bridge.specs.Below.{Hangs}
use Rattle.bridge.specs.Leads.{link_along}
use Rattle.bridge.proofs.Firing.Turns.{look-v, look-u, y-most}
use Rattle.bridge.proofs.Firing.Twice.{look-w, w-in}
use Rattle.bridge.proofs.Firing.Along.{some-state, hangs-along}
use Rattle.bridge.proofs.Firing.Fires.{hangs-root}
use Rattle.std.specs.Prelude.{Option, Some}

-- a register beside an empty link is 0
beside : (t : List ℕ) (c x h : ℕ) (T : Tree) → link_ok c x h ≡ true → Spells t c x T → Beside h T
unfolding link_ok Spells
beside t c x h leaf e p =
    let q = rw p at (and_r (leb x c && leb h 65535) (not (eqb x 0) || eqb h 0) e) in
    eqb-true h 0 q
beside t c x h (node d a b l r) e p = tt

pub relaxed : (t : List ℕ) (c x : ℕ) (T : Tree) → Spells t c x T → Relaxed T
unfolding Spells
relaxed t c x leaf p = tt
relaxed t c x (node d a b l r) p =
    let f = fits c (slot_at t x) p.fit in
    record {
      near = rw p.lefth (beside t c (slot_at t x).left (slot_at t x).lefth l f.left p.left);
      far = rw p.righth (beside t c (slot_at t x).right (slot_at t x).righth r f.right p.right);
      in_near = relaxed t c (slot_at t x).left l p.left;
      in_far = relaxed t c (slot_at t x).right r p.right;
    }

-- a guard that holds at the top of what hangs at a link holds on words
module _ {t : List ℕ} {c : ℕ} (l : Link) where
  holds-two : (k : Kind) → has_third k ≡ false → (s : Side) (dv du : Batch) (v u : Pair) (m n far : Tree)
      → Hangs t c l (mk s dv v (mk s du u m n) far) → guard k v u u ≡ true
      → holds_at t c (rule_on k s) (word t (link_at l)) ≡ true
  unfolding holds_at guard_at
  holds-two k e s dv du v u m n far h g =
      let a = look-v l s dv du v u m n far h in
      let b = look-u l s dv du v u m n far h in
      let y = son (slot_at t (word t (link_at l))) s in
      let q = rw (a.registers, b.registers) at g in
      rw (
        some-state _ (fits c (slot_at t (word t (link_at l))) a.fit).state,
        e,
        ne_eqb y 0 (λ z. omega (arith, b.there)),
        le-leb y c (y-most l s dv du v u m n far h),
        q,
      ) refl

  holds-three : (s : Side) (dv du dw : Batch) (v u w : Pair) (m e f far : Tree)
      → Hangs t c l (mk s dv v (mk s du u m (mk s dw w e f)) far) → guard Double v u w ≡ true
      → holds_at t c (rule_on Double s) (word t (link_at l)) ≡ true
  unfolding holds_at guard_at
  holds-three s dv du dw v u w m e f far h g =
      let a = look-v l s dv du v u m (mk s dw w e f) far h in
      let b = look-u l s dv du v u m (mk s dw w e f) far h in
      let d = look-w l s dv du dw v u w m e f far h in
      let y = son (slot_at t (word t (link_at l))) s in
      let z = son (slot_at t y) (other s) in
      let q = rw (a.registers, b.registers, d.registers) at g in
      rw (
        some-state _ (fits c (slot_at t (word t (link_at l))) a.fit).state,
        ne_eqb y 0 (λ z. omega (arith, b.there)),
        le-leb y c (y-most l s dv du v u m (mk s dw w e f) far h),
        ne_eqb z 0 (λ z. omega (arith, d.there)),
        le-leb z c (w-in l s dv du dw v u w m e f far h).most,
        q,
      ) refl

  holds-step : (s : Side) (k : Kind) (S S' : Tree) → Step guard s k S S' → Hangs t c l S
      → holds_at t c (rule_on k s) (word t (link_at l)) ≡ true
  holds-step s k S S' (propagates dv du v u m n far g) h = holds-two Propagate refl s dv du v u m n far h g
  holds-step s k S S' (leans dv du v u m n far g) h = holds-two Lean refl s dv du v u m n far h g
  holds-step s k S S' (evens dv du v u m n far g) h = holds-two Even refl s dv du v u m n far h g
  holds-step s k S S' (doubles dv du dw v u w m e f far g) h = holds-three s dv du dw v u w m e f far h g

  step-there : (s : Side) (k : Kind) (S S' : Tree) → Step guard s k S S' → Hangs t c l S → 1 ≤ word t (link_at l)
  step-there s k S S' (propagates dv du v u m n far g) h = (look-v l s dv du v u m n far h).there
  step-there s k S S' (leans dv du v u m n far g) h = (look-v l s dv du v u m n far h).there
  step-there s k S S' (evens dv du v u m n far g) h = (look-v l s dv du v u m n far h).there
  step-there s k S S' (doubles dv du dw v u w m e f far g) h = (look-v l s dv du v u m (mk s dw w e f) far h).there

-- a slot where the guard of a rule holds
pub record HoldsAt (t : List ℕ) (c : ℕ) (r : Rule) : Type 0 where
  pub slot : ℕ
  pub first : 1 ≤ slot
  pub most : slot ≤ c
  pub holds : holds_at t c r slot ≡ true

pub holds-there : {t : List ℕ} {c : ℕ} (l : Link) (T T' : Tree) → Hangs t c l T → (way : List Side) (r : Rule)
    → fire_at way r T ≡ some T'
    → HoldsAt t c r
holds-there {t} {c} l T T' h way r e =
    let p = placed guard r way T T' e in
    let s = stepped guard r p.from p.to p.fires in
    let k = hangs-along way l T p.from h p.there in
    record {
      slot = word t (link_at (link_along t way l));
      first = step-there (link_along t way l) r.side r.kind p.from p.to s k;
      most = k.most;
      holds = holds-step (link_along t way l) r.side r.kind p.from p.to s k;
    }

-- every rule has a number from 1 to 8
pub record Numbered (r : Rule) : Type 0 where
  pub number : ℕ
  pub first : 1 ≤ number
  pub most : number ≤ 8
  pub is : rule_of number ≡ Some r

named : (k : Kind) (s : Side) (n : ℕ) → 1 ≤ n → n ≤ 8 → rule_of n ≡ Some (rule_on k s) → Numbered (rule_on k s)
named k s n i j e = record { number = n; first = i; most = j; is = e }

numbered-on : (k : Kind) (s : Side) → Numbered (rule_on k s)
unfolding rule_of
numbered-on Propagate Left = named Propagate Left 1 (omega arith) (omega arith) refl
numbered-on Propagate Right = named Propagate Right 2 (omega arith) (omega arith) refl
numbered-on Lean Left = named Lean Left 3 (omega arith) (omega arith) refl
numbered-on Lean Right = named Lean Right 4 (omega arith) (omega arith) refl
numbered-on Even Left = named Even Left 5 (omega arith) (omega arith) refl
numbered-on Even Right = named Even Right 6 (omega arith) (omega arith) refl
numbered-on Double Left = named Double Left 7 (omega arith) (omega arith) refl
numbered-on Double Right = named Double Right 8 (omega arith) (omega arith) refl

pub rule-numbered : (r : Rule) → Numbered r
rule-numbered r = numbered-on r.kind r.side

-- where a search finds nothing, no test passes
module _ (test : ℕ → ℕ → Bool) where
  found-not : {X : Type 0} (b : Bool) (v n : ℕ) (after : Option (ℕ × ℕ)) → nothing (cond b (Some (v, n)) after) ≡ true
      → (b ≡ false → nothing after ≡ true → X) → X
  found-not true v n after e k = neither e refl
  found-not false v n after e k = k refl e

  no-rule : (left v n : ℕ) (after : Option (ℕ × ℕ)) → nothing (rules_from test left v n after) ≡ true
      → ((i : ℕ) → n ≤ i → i < n + left → test v i ≡ false) × (nothing after ≡ true)
  unfolding rules_from
  no-rule zero v n after e = (λ i p q. absurd (omega arith), e)
  no-rule (suc left) v n after e =
      found-not (test v n) v n (rules_from test left v (n + 1) after) e
      (λ b rest. let r = no-rule left v (n + 1) after rest in (
        λ i p q. elim (ℕ_discrete n i) [ yes s ↦ rw (← s) b | no s ↦ r.0 i (omega arith) (omega arith) ],
        r.1,
      ))

  pub no_slot-found : (left k : ℕ) → nothing (slots_from test left k) ≡ true
      → (v n : ℕ) → k ≤ v → v < k + left → 1 ≤ n → n ≤ 8 → test v n ≡ false
  unfolding slots_from
  no_slot-found zero k e v n p q i j = absurd (omega arith)
  no_slot-found (suc left) k e v n p q i j =
      let r = no-rule 8 k 1 (slots_from test left (k + 1)) e in
      elim (ℕ_discrete k v) [
        | yes s ↦ rw (← s) (r.0 n i (omega arith))
        | no s ↦ no_slot-found left (k + 1) r.1 v n (omega arith) (omega arith) i j
      ]

-- QUIET WORDS SPELL A QUIET TREE
pub quiet-tree : {t : List ℕ} {c : ℕ} (w : Whole t c) → quiet t c ≡ true → Quiet w.sound.tree
unfolding quiet passes
quiet-tree {t} {c} w e way r =
    none-there (fire_at way r w.sound.tree)
    (λ T' q.
    let h = holds-there root_link w.sound.tree T' (hangs-root w) way r q in
    let n = rule-numbered r in
    let f = no_slot-found (passes false t c) c 1 e h.slot n.number h.first (omega (arith, h.most)) n.first n.most in
    neither h.holds (rw n.is at f))
