-- A rule's test at a slot, on two tables that agree on what it reads. Assumes nothing.
use Prim.Native.Nat.{ℕ, ◌≤◌}
use mathlib.Core.Path.{◌≡◌, refl, sym, ◌∙◌, ap}
use mathlib.Core.Bool.{Bool, true, false, cond, not, ◌&&◌}
use mathlib.Core.List.{List}
use native.Mathlib.Omega.{arith}
use native.Mathlib.Decide.{ℕ_discrete}
use lib.Dec.{leb, eqb}
use Rattle.scope.proofs.Bools.{by_bool}
use Rattle.scope.specs.Numbers.{other, most_height, root_link, rule_of}
use Rattle.scope.specs.Table.{slot_at, son}
use Rattle.scope.specs.Rules.{seen, guard, highest, guard_at, highest_at}
use Rattle.scope.specs.Fire.{has_third}
use Rattle.scope.specs.Tidy.{nodes_at, holds_at, due_at, by_rule, passes}
use Rattle.scope.specs.declared.side.Side.{Side}
use Rattle.scope.specs.declared.rule.Pair.{Pair}
use Rattle.scope.specs.declared.rule.Kind.{Kind}
use Rattle.scope.specs.declared.rule.Rule.{Rule}
use Rattle.std.specs.Prelude.{Option, Some, None}

-- two tables agree at slot x: on it, on its sons, and on the registers of its grandsons
pub record Agree (t t' : List ℕ) (x : ℕ) : Type 0 where
  pub slot : slot_at t' x ≡ slot_at t x
  pub sons : (s : Side) → 1 ≤ son (slot_at t x) s → slot_at t' (son (slot_at t x) s) ≡ slot_at t (son (slot_at t x) s)
  pub grandsons : (s s' o : Side) → 1 ≤ son (slot_at t x) s → 1 ≤ son (slot_at t (son (slot_at t x) s)) s'
      → seen o (slot_at t' (son (slot_at t (son (slot_at t x) s)) s'))
      ≡ seen o (slot_at t (son (slot_at t (son (slot_at t x) s)) s'))

-- the test of a rule, from the numbers that it reads
abbrev there : ℕ → ℕ → ℕ → ℕ → Bool
there c state u w = not (eqb state 0) && (not (eqb u 0) && leb u c) && (not (eqb w 0) && leb w c)

unfoldable tested : Bool → Kind → ℕ → ℕ → ℕ → ℕ → Pair → Pair → Pair → Bool
tested true k c state u w pv pu pw =
    (there c state u w && guard k pv pu pw) && leb (highest k pv pu pw) most_height
tested false k c state u w pv pu pw = there c state u w && guard k pv pu pw

is-tested : (limited : Bool) (t : List ℕ) (c : ℕ) (r : Rule) (x : ℕ)
    → (let n = nodes_at t r root_link x in
    by_rule limited t c x (Some r)
    ≡ tested limited r.kind c n.sv.state n.u n.w
    (seen r.side n.sv) (seen r.side n.su) (seen r.side n.sw))
unfolding tested due_at holds_at guard_at highest_at
is-tested true t c r x = refl
is-tested false t c r x = refl

-- it fails where a node is missing
module _ (k : Kind) (c state u w : ℕ) (pv pu pw : Pair) where
  off : (limited : Bool) → there c state u w ≡ false → tested limited k c state u w pv pu pw ≡ false
  unfolding tested
  off true e = rw e refl
  off false e = rw e refl

  off-u : (limited : Bool) → u ≡ 0 → tested limited k c state u w pv pu pw ≡ false
  off-u limited e =
      off limited (by_bool (not (eqb state 0)) (λ p. rw (e, p) refl) (λ p. rw (e, p) refl))

  off-w : (limited : Bool) → w ≡ 0 → tested limited k c state u w pv pu pw ≡ false
  off-w limited e =
      off limited
      (by_bool (not (eqb state 0) && (not (eqb u 0) && leb u c)) (λ p. rw (e, p) refl) (λ p. rw (e, p) refl))

module _ {t t' : List ℕ} {x : ℕ} (a : Agree t t' x) (c : ℕ) (limited : Bool) (k : Kind) (s : Side) where
  abbrev u : ℕ
  u = son (slot_at t x) s

  abbrev far : ℕ
  far = son (slot_at t u) (other s)

  abbrev third : ℕ
  third = cond (has_third k) far u

  same-third : 1 ≤ u → 1 ≤ third → seen s (slot_at t' third) ≡ seen s (slot_at t third)
  same-third i j =
      by_bool (has_third k)
      (λ e. let o : 1 ≤ far = rw e at j in rw e (a.grandsons s (other s) s i o))
      (λ e. rw e (ap (seen s) (a.sons s i)))

  abbrev reads : List ℕ → ℕ → ℕ → Bool
  reads T v w =
      tested limited k c (slot_at T x).state v w (seen s (slot_at T x)) (seen s (slot_at T v)) (seen s (slot_at T w))

  same_reads : reads t' (son (slot_at t' x) s)
      (cond (has_third k) (son (slot_at t' (son (slot_at t' x) s)) (other s)) (son (slot_at t' x) s))
      ≡ reads t u third
  same_reads =
      rw a.slot
      (elim (ℕ_discrete u 0) [
        | yes e ↦ off-u k c _ u _ _ _ _ limited e ∙ sym (off-u k c _ u _ _ _ _ limited e)
        | no ne ↦ rw (a.sons s (omega arith))
            (elim (ℕ_discrete third 0) [
              | yes e ↦ off-w k c _ u third _ _ _ limited e ∙ sym (off-w k c _ u third _ _ _ limited e)
              | no nz ↦ rw (same-third (omega arith) (omega arith)) refl
            ])
      ])

same-rule : {t t' : List ℕ} {x : ℕ} → Agree t t' x → (c : ℕ) (limited : Bool) (r : Option Rule)
    → by_rule limited t' c x r ≡ by_rule limited t c x r
same-rule a c limited None = refl
same-rule {t} {t'} {x} a c limited (Some r) =
    is-tested limited t' c r x ∙ same_reads a c limited r.kind r.side ∙ sym (is-tested limited t c r x)

-- THE TEST IS THE SAME where the tables agree
pub same-passes : {t t' : List ℕ} {x : ℕ} → Agree t t' x → (c : ℕ) (limited : Bool) (n : ℕ)
    → passes limited t' c x n ≡ passes limited t c x n
unfolding passes
same-passes a c limited n = same-rule a c limited (rule_of n)
