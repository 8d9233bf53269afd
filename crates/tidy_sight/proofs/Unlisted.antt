-- Where no rule may be due none is. Assumes nothing.
use Prim.Native.Nat.{ℕ}
use mathlib.Core.Path.{◌≡◌, refl}
use mathlib.Core.Bool.{Bool, true, false, not, ◌&&◌, ◌||◌}
use mathlib.Core.List.{List}
use lib.Dec.{eqb}
use Rattle.scope.proofs.Bools.{and-off, by_bool, or_l, or_r}
use Rattle.scope.specs.Numbers.{root_link, rule_of}
use Rattle.scope.specs.Table.{slot_at, son}
use Rattle.scope.specs.Rules.{seen, reliable, heavy, guard, guard_at}
use Rattle.scope.specs.Tidy.{nodes_at, present, holds_at, due_at, by_rule, passes}
use Rattle.scope.specs.declared.slot.Slot.{Slot}
use Rattle.scope.specs.declared.side.Side.{Side}
use Rattle.scope.specs.declared.side.Side.TheVariants.{Left, Right}
use Rattle.scope.specs.declared.rule.Pair.{Pair}
use Rattle.scope.specs.declared.rule.Kind.{Kind}
use Rattle.scope.specs.declared.rule.Kind.TheVariants.{Propagate, Lean, Even, Double}
use Rattle.scope.specs.declared.rule.Rule.{Rule}
use Rattle.tidy_sight.specs.MayBeDue.{names, side_may_be_due, may_be_due}
use Rattle.std.specs.Prelude.{Option, Some, None}

-- a slot that does not lean, above a register that is up to date
no_guard : (k : Kind) (v u w : Pair) → heavy v ≡ false → not (reliable v.near u) ≡ false → guard k v u w ≡ false
no_guard Propagate v u w h r = r
no_guard Lean v u w h r = by_bool (reliable v.near u) (λ e. rw (h, e) refl) (λ e. rw (h, e) refl)
no_guard Even v u w h r = by_bool (reliable v.near u) (λ e. rw (h, e) refl) (λ e. rw (h, e) refl)
no_guard Double v u w h r =
    by_bool (reliable v.near u && reliable u.far w) (λ e. rw (h, e) refl) (λ e. rw (h, e) refl)

module _ (t : List ℕ) (c v : ℕ) where
  -- on the side of a rule
  off-side : (r : Rule) → side_may_be_due t c (slot_at t v) r.side ≡ false → holds_at t c r v ≡ false
  unfolding side_may_be_due holds_at guard_at
  off-side r e =
      let n = nodes_at t r root_link v in
      by_bool (names c n.u)
      (λ p. let q = simp p at e in
      and-off (present c n) _
      (no_guard r.kind (seen r.side n.sv) (seen r.side n.su) (seen r.side n.sw)
      (or_l _ _ q) (or_r (heavy (seen r.side n.sv)) _ q)))
      (λ p. by_bool (not (eqb n.sv.state 0)) (λ q. rw (q, p) refl) (λ q. rw (q) refl))

  off-state : (r : Rule) → not (eqb (slot_at t v).state 0) ≡ false → holds_at t c r v ≡ false
  unfolding holds_at
  off-state r e = rw e refl

  on-side : side_may_be_due t c (slot_at t v) Left ≡ false → side_may_be_due t c (slot_at t v) Right ≡ false → (s : Side)
      → side_may_be_due t c (slot_at t v) s ≡ false
  on-side a b Left = a
  on-side a b Right = b

  off-rule : may_be_due t c (slot_at t v) ≡ false → (r : Rule) → holds_at t c r v ≡ false
  unfolding may_be_due
  off-rule e r =
      by_bool (not (eqb (slot_at t v).state 0))
      (λ p. let q = simp p at e in
      off-side r (on-side (or_l _ _ q) (or_r (side_may_be_due t c (slot_at t v) Left) _ q) r.side))
      (off-state r)

  off-by : may_be_due t c (slot_at t v) ≡ false → (r : Option Rule) → by_rule true t c v r ≡ false
  unfolding due_at
  off-by e None = refl
  off-by e (Some r) = rw (off-rule e r) refl

  -- WHERE NO RULE MAY BE DUE none is
  pub may-not-be-due : may_be_due t c (slot_at t v) ≡ false → (n : ℕ) → passes true t c v n ≡ false
  unfolding passes
  may-not-be-due e n = off-by e (rule_of n)

-- a side that was read
pub side-read : (t : List ℕ) (c : ℕ) (x : Slot) (s : Side) {u : ℕ} {v w : Pair} {y : Slot} {h r : Bool} → u ≡ son x s
    → names c u ≡ true → v ≡ seen s x → y ≡ slot_at t u → h ≡ heavy v → w ≡ seen s y → r ≡ reliable v.near w
    → (h || not r) ≡ side_may_be_due t c x s
unfolding side_may_be_due
side-read t c x s eu n ev ey eh ew er = let m = rw eu at n in rw (m, eh, er, ew, ey, ev, eu) refl
