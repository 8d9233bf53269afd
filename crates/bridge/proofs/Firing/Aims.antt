-- At a link: a firing on words is accepted exactly if it is on the tree that hangs there, and makes of it the same. Assumes nothing.
use Prim.Native.Nat.{ℕ, ◌≤◌}
use mathlib.Core.Path.{◌≡◌, refl, sym, ◌∙◌, ap}
use mathlib.Core.Bool.{true, false}
use mathlib.Core.Option.{Option, none}
use mathlib.Core.List.{List}
use native.Mathlib.Omega.{arith}
use lib.Dec.{leb}
use borrow.Author.Tests.{ne_eqb, leb-true}
use Rattle.scope.proofs.Bools.{by_bool}
use Rattle.scope.specs.Numbers.{other, most_height}
use Rattle.scope.specs.Table.{word, slot_at, son, link_at, written}
use Rattle.scope.specs.Tree.{Batch, Tree, leaf, times, same}
use Rattle.scope.specs.Sound.{Spells}
use Rattle.scope.specs.Rules.{seen, guard, highest, guard_at, highest_at, action_at}
use Rattle.scope.specs.Fire.{take_of, judged, has_third, aim_w, aim_u, aim_v}
use Rattle.scope.specs.declared.rule.Pair.{Pair}
use Rattle.scope.specs.declared.rule.Kind.{Kind}
use Rattle.scope.specs.declared.rule.Kind.TheVariants.{Propagate, Lean, Even, Double}
use Rattle.scope.specs.declared.rule.Rule.{Rule}
use Rattle.scope.specs.declared.side.Side.{Side}
use Rattle.scope.specs.declared.side.Link.{Link}
use Rattle.scope.specs.declared.answer.Refusal.TheVariants.{GuardFails}
use Rattle.scope.specs.declared.slot.Slot.{Slot}
use Rattle.scope.specs.declared.outcome.Nodes.{Nodes}
use Rattle.tree.specs.Rewrite.{mk, rule_on, Test, when, within, rewrite_top, fire_top, propagated_tree, rotated_tree, doubled}
use Rattle.tree.proofs.Firing.Steps.{by_side, top-is}
use Rattle.tree.proofs.Firing.Sides.{times-mk}
use Rattle.bridge.specs.Below.{Hangs, ChangedBelow}
use Rattle.bridge.specs.Alike.{guard_fails, too_high, Alike}
use Rattle.bridge.proofs.Links.Looks.{Looks, look}
use Rattle.bridge.proofs.Links.Outside.{same-one, StandsIn}
use Rattle.bridge.proofs.Firing.Turns.{look-v, look-u, v-in, u-in, x-y, not-holder, two_nodes}
use Rattle.bridge.proofs.Firing.Turns.{propagate-below, rotate-below}
use Rattle.bridge.proofs.Firing.Twice.{look-w, w-in, x-z, y-z, three_nodes, twice-below}
use Rattle.std.specs.Prelude.{Result, Ok, Err}
use Rattle.scope.specs.declared.answer.Refusal.{Refusal}

-- a node that is none of the slots before it is taken
take-got : {t : List ℕ} {c x : ℕ} {s : Side} {d : Batch} {p : Pair} {near far : Tree} → Looks t c x s d p near far
    → (a b e : ℕ) → (x ≡ a → ⊥) → (x ≡ b → ⊥) → (x ≡ e → ⊥) → take_of t c x a b e ≡ Ok (slot_at t x)
unfolding take_of
take-got {x = x} h a b e na nb ne =
    simp (ne_eqb x 0 (λ q. omega (arith, h.there)), h.fit, ne_eqb x a na, ne_eqb x b nb, ne_eqb x e ne)

take_none : (t : List ℕ) (c a b e : ℕ) → take_of t c 0 a b e ≡ Err GuardFails
unfolding take_of
take_none t c a b e = refl

module _ (t : List ℕ) (Q : Tree → List ℕ → Type 0) where
  alike-by : {g g' o o' : Option Tree} {f f' : (Result (Rule × Nodes) Refusal)} → g ≡ g' → o ≡ o' → f ≡ f' → Alike t Q g' o' f' → Alike t Q g o f
  alike-by d e g h = rw (d, e, g) h

  -- the guard first, then the limit
  judge : (k : Kind) (s : Side) (n : Nodes) (v u w : Pair) (T : Tree) → v ≡ seen s n.sv → u ≡ seen s n.su
      → w ≡ seen s n.sw
      → (highest k v u w ≤ most_height → Q T (written t (action_at (rule_on k s) n)))
      → Alike t Q (when (guard k v u w) T) (when (within most_height k v u w) T) (judged (rule_on k s) n)
  unfolding judged guard_at highest_at
  judge k s n v u w T ev eu ew q =
      let g : guard_at (rule_on k s) n ≡ guard k v u w = rw (ev, eu, ew) refl in
      let i : highest_at (rule_on k s) n ≡ highest k v u w = rw (ev, eu, ew) refl in
      by_bool (guard k v u w)
      (λ a. by_bool (leb (highest k v u w) most_height)
      (λ b. rw (g, i, a, b) (q (leb-true _ _ b)))
      (λ b. rw (g, i, a, b) too_high))
      (λ a. rw (g, a) guard_fails)

module _ (t : List ℕ) (c : ℕ) (l : Link) where
  -- the slots of v and u
  abbrev x : ℕ
  x = word t (link_at l)

  abbrev y : Side → ℕ
  y s = son (slot_at t x) s

  -- what a firing at l makes of the tree that hangs there
  abbrev pub At : Tree → Tree → List ℕ → Type 0
  At S S' t' = ChangedBelow t t' c l S S'

  -- no v, no u, no w
  no-v : (r : Rule) → Hangs t c l leaf → aim_v t c r l ≡ Err GuardFails
  unfolding aim_v Spells
  no-v r h = rw (h.spells, take_none) refl

  module _ (k : Kind) (s : Side) where
    got-v : {d : Batch} {v : Pair} {near far : Tree} → Looks t c x s d v near far → (x ≡ l.holder → ⊥)
        → aim_v t c (rule_on k s) l ≡ aim_u t c (rule_on k s) l x (slot_at t x)
    unfolding aim_v
    got-v a ne = simp (take-got a l.holder 0 0 ne (λ q. omega (arith, a.there)) (λ q. omega (arith, a.there)))

    no-u : (sv : Slot) → son sv s ≡ 0 → aim_u t c (rule_on k s) l x sv ≡ Err GuardFails
    unfolding aim_u
    no-u sv e = rw (e, take_none) refl

    got-u : {d : Batch} {u : Pair} {near far : Tree} → Looks t c (y s) s d u near far → (y s ≡ l.holder → ⊥)
        → (y s ≡ x → ⊥)
        → has_third k ≡ false → aim_u t c (rule_on k s) l x (slot_at t x)
        ≡ judged (rule_on k s) (record { link = l; v = x; u = y s; w = y s; sv = slot_at t x; su = slot_at t (y s); sw = slot_at t (y s) })
    unfolding aim_u
    got-u a nh nv e = simp (take-got a l.holder x 0 nh nv (λ q. omega (arith, a.there)), e)

    got-w : {d : Batch} {u : Pair} {near far : Tree} → Looks t c (y s) s d u near far → (y s ≡ l.holder → ⊥)
        → (y s ≡ x → ⊥)
        → has_third k ≡ true → aim_u t c (rule_on k s) l x (slot_at t x) ≡ aim_w t c (rule_on k s) l x (slot_at t x) (y s) (slot_at t (y s))
    unfolding aim_u
    got-w a nh nv e = simp (take-got a l.holder x 0 nh nv (λ q. omega (arith, a.there)), e)

  -- v and u are there
  module _ (s : Side) (dv du : Batch) (v u : Pair) (m n far : Tree) (h : Hangs t c l (mk s dv v (mk s du u m n) far)) where
    lv : Looks t c x s dv v (mk s du u m n) far
    lv = look-v l s dv du v u m n far h

    lu : Looks t c (y s) s du u m n
    lu = look-u l s dv du v u m n far h

    apart : (j : ℕ) → StandsIn c (mk s dv v (mk s du u m n) far) j → j ≡ l.holder → ⊥
    apart j i = not-holder l s dv du v u m n far h j i.once

    abbrev pub pairs : Nodes
    pairs = two_nodes l s dv du v u m n far h (y s) (slot_at t (y s))

    aims : (k : Kind) → has_third k ≡ false → aim_v t c (rule_on k s) l ≡ judged (rule_on k s) pairs
    aims k e =
        got-v k s lv (apart _ (v-in l s dv du v u m n far h))
        ∙ got-u k s lu (apart _ (u-in l s dv du v u m n far h)) (λ q. x-y l s dv du v u m n far h (sym q)) e

    aims-on : aim_v t c (rule_on Double s) l
        ≡ aim_w t c (rule_on Double s) l x (slot_at t x) (y s) (slot_at t (y s))
    aims-on =
        got-v Double s lv (apart _ (v-in l s dv du v u m n far h))
        ∙ got-w Double s lu (apart _ (u-in l s dv du v u m n far h)) (λ q. x-y l s dv du v u m n far h (sym q)) refl

    abbrev Same : Kind → Type 0
    Same k =
        let S = mk s dv v (mk s du u m n) far in
        Alike t (At S) (fire_top (rule_on k s) S) (rewrite_top (within most_height) (rule_on k s) S) (aim_v t c (rule_on k s) l)

    single : (k : Kind) → has_third k ≡ false → (T : Tree)
        → ((test : Test) → rewrite_top test (rule_on k s) (mk s dv v (mk s du u m n) far) ≡ when (test k v u u) T)
        → (highest k v u u ≤ most_height → At (mk s dv v (mk s du u m n) far) T (written t (action_at (rule_on k s) pairs)))
        → Same k
    single k e T top act =
        alike-by t (At (mk s dv v (mk s du u m n) far)) (top guard) (top (within most_height)) (aims k e)
        (judge t (At (mk s dv v (mk s du u m n) far)) k s pairs v u u T lv.registers lu.registers lu.registers act)

    propagate-same : Same Propagate
    unfolding rewrite_top action_at
    propagate-same =
        single Propagate refl (propagated_tree s dv du v u m n far) (λ test. simp top-is)
        (propagate-below l s dv du v u m n far h (y s) (slot_at t (y s)))

    lean-same : Same Lean
    unfolding rewrite_top action_at
    lean-same =
        single Lean refl (rotated_tree s dv du v u m n far) (λ test. simp top-is)
        (rotate-below l s dv du v u m n far h (y s) (slot_at t (y s)))

    even-same : Same Even
    unfolding rewrite_top action_at
    even-same =
        single Even refl (rotated_tree s dv du v u m n far) (λ test. simp top-is)
        (rotate-below l s dv du v u m n far h (y s) (slot_at t (y s)))

  -- w is missing, or there
  module _ (s : Side) where
    abbrev z : ℕ
    z = son (slot_at t (y s)) (other s)

    no-w : z ≡ 0 → aim_w t c (rule_on Double s) l x (slot_at t x) (y s) (slot_at t (y s)) ≡ Err GuardFails
    unfolding aim_w
    no-w e = rw (e, take_none) refl

    got-third : {d : Batch} {p : Pair} {near far : Tree} → Looks t c z s d p near far
        → (z ≡ l.holder → ⊥) → (z ≡ x → ⊥) → (z ≡ y s → ⊥)
        → aim_w t c (rule_on Double s) l x (slot_at t x) (y s) (slot_at t (y s))
        ≡ judged (rule_on Double s) (record { link = l; v = x; u = y s; w = z; sv = slot_at t x; su = slot_at t (y s); sw = slot_at t z })
    unfolding aim_w
    got-third a nh nx ny = simp (take-got a l.holder x (y s) nh nx ny)

    module _ (dv du : Batch) (v u : Pair) (m far : Tree) where
      twice-none : (h : Hangs t c l (mk s dv v (mk s du u m leaf) far)) → Same s dv du v u m leaf far h Double
      unfolding rewrite_top Spells
      twice-none h =
          let top : (test : Test) → rewrite_top test (rule_on Double s) (mk s dv v (mk s du u m leaf) far) ≡ none = λ test. simp top-is in
          alike-by t (At (mk s dv v (mk s du u m leaf) far)) (top guard) (top (within most_height))
          (aims-on s dv du v u m leaf far h ∙ no-w (look-u l s dv du v u m leaf far h).far_son) guard_fails

      twice-full : (dw : Batch) (w : Pair) (e f : Tree) (h : Hangs t c l (mk s dv v (mk s du u m (mk s dw w e f)) far))
          → Same s dv du v u m (mk s dw w e f) far h Double
      unfolding rewrite_top action_at
      twice-full dw w e f h =
          let top : (test : Test) → rewrite_top test (rule_on Double s) (mk s dv v (mk s du u m (mk s dw w e f)) far)
          ≡ when (test Double v u w) (doubled s dv du v u dw w m e f far) = λ test. simp top-is in
          let a = look-w l s dv du dw v u w m e f far h in
          let ne = not-holder l s dv du v u m (mk s dw w e f) far h z (w-in l s dv du dw v u w m e f far h).once in
          alike-by t (At (mk s dv v (mk s du u m (mk s dw w e f)) far)) (top guard) (top (within most_height))
          (aims-on s dv du v u m (mk s dw w e f) far h
          ∙ got-third a ne (λ q. x-z l s dv du dw v u w m e f far h (sym q)) (λ q. y-z l s dv du dw v u w m e f far h (sym q)))
          (judge t (At (mk s dv v (mk s du u m (mk s dw w e f)) far)) Double s
          (three_nodes l s dv du dw v u w m e f far h) v u w (doubled s dv du v u dw w m e f far)
          (look-v l s dv du v u m (mk s dw w e f) far h).registers (look-u l s dv du v u m (mk s dw w e f) far h).registers
          a.registers (twice-below l s dv du dw v u w m e f far h))

  -- any kind, where v and u are there
  two-same : (k : Kind) (s : Side) (dv du : Batch) (v u : Pair) (m n far : Tree) (h : Hangs t c l (mk s dv v (mk s du u m n) far))
      → Same s dv du v u m n far h k
  two-same Propagate s dv du v u m n far h = propagate-same s dv du v u m n far h
  two-same Lean s dv du v u m n far h = lean-same s dv du v u m n far h
  two-same Even s dv du v u m n far h = even-same s dv du v u m n far h
  two-same Double s dv du v u m n far h =
      by_side s (λ N. (h : Hangs t c l (mk s dv v (mk s du u m N) far)) → Same s dv du v u m N far h Double) n
      (twice-none s dv du v u m far) (twice-full s dv du v u m far) h

  -- AT A LINK: the firing on words is the one at the top of the tree that hangs there
  abbrev pub SameAt : Rule → Tree → Type 0
  SameAt r S = Hangs t c l S → Alike t (At S) (fire_top r S) (rewrite_top (within most_height) r S) (aim_v t c r l)

  none-same : (r : Rule) → SameAt r leaf
  unfolding rewrite_top
  none-same r h = rw (no-v r h) guard_fails

  one_same : (k : Kind) (s : Side) (dv : Batch) (v : Pair) (far : Tree) → SameAt (rule_on k s) (mk s dv v leaf far)
  unfolding rewrite_top Spells
  one_same k s dv v far h =
      let top : (test : Test) → rewrite_top test (rule_on k s) (mk s dv v leaf far) ≡ none = λ test. simp top-is in
      let a = look t c x dv v leaf far s h.spells in
      let once : 1 ≤ times x (mk s dv v leaf far)
      = omega (arith, times-mk s dv v leaf far x, ap (λ (d : Batch). same x d.slot) a.holds, same-one x x refl) in
      alike-by t (At (mk s dv v leaf far)) (top guard) (top (within most_height))
      (got-v k s a (λ q. omega (arith, ap (λ (j : ℕ). times j (mk s dv v leaf far)) q, h.apart)) ∙ no-u k s (slot_at t x) a.near_son)
      guard_fails

  pub same_at : (r : Rule) (S : Tree) → SameAt r S
  same_at r S =
      by_side r.side (SameAt r) S (none-same r)
      (λ dv v near far. by_side r.side (λ N. SameAt r (mk r.side dv v N far)) near
      (one_same r.kind r.side dv v far)
      (λ du u m n. two-same r.kind r.side dv du v u m n far))
