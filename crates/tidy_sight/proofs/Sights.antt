-- The test of a rule by what is seen is the one that is defined, and its nodes are as defined. Assumes nothing.
use Prim.Native.Nat.{ℕ, ◌≤◌}
use mathlib.Core.Path.{◌≡◌, refl, ◌∙◌}
use mathlib.Core.Bool.{Bool, true, false, not, ◌&&◌}
use mathlib.Core.List.{List}
use native.Mathlib.Omega.{arith}
use borrow.Author.Tests.{eqb-false, leb-true, not-true}
use lib.Dec.{eqb}
use Rattle.scope.proofs.Bools.{and_l, and_r, by_bool}
use Rattle.scope.specs.Numbers.{other, rule_of}
use Rattle.scope.specs.Table.{slot_at, son, InTable}
use Rattle.scope.specs.Rules.{guard_at, highest_at}
use Rattle.scope.specs.Fire.{has_third}
use Rattle.scope.specs.Tidy.{nodes_at, holds_at, due_at, passes}
use Rattle.scope.specs.declared.slot.Slot.{Slot}
use Rattle.scope.specs.declared.side.Side.{Side}
use Rattle.scope.specs.declared.side.Side.TheVariants.{Left, Right}
use Rattle.scope.specs.declared.side.Link.{Link}
use Rattle.scope.specs.declared.rule.Rule.{Rule}
use Rattle.spelling.proofs.Laws.{in_table}
use Rattle.tidy_sight.specs.MayBeDue.{names}
use Rattle.tidy_sight.specs.Sight.{sight_of, on_side, due_seen, Present}
use Rattle.tidy_sight.specs.declared.sight.Sight.{Sight}
use Rattle.std.specs.Prelude.{Some}

-- a number that names a slot of c is one
pub named : (c k : ℕ) → names c k ≡ true → (1 ≤ k) × (k ≤ c)
named c k e = (omega (arith, eqb-false k 0 (not-true _ (and_l _ _ e))), leb-true k c (and_r (not (eqb k 0)) _ e))

due-seen : (t : List ℕ) (c : ℕ) (r : Rule) (v : ℕ) → due_seen t c r (sight_of t c (slot_at t v) r.side) ≡ due_at t c r v
unfolding due_seen sight_of due_at holds_at guard_at highest_at
due-seen t c r v =
    let u = son (slot_at t v) r.side in
    by_bool (not (eqb (slot_at t v).state 0))
    (λ a. by_bool (names c u)
    (λ b. by_bool (has_third r.kind)
    (λ h. by_bool (names c (son (slot_at t u) (other r.side))) (λ d. simp (a, b, h, d)) (λ d. simp (a, b, h, d)))
    (λ h. simp (a, b, h)))
    (λ b. simp (a, b)))
    (λ a. simp a)

either : (t : List ℕ) (c : ℕ) (x : Slot) (s : Side)
    → on_side s (sight_of t c x Left) (sight_of t c x Right) ≡ sight_of t c x s
either t c x Left = refl
either t c x Right = refl

-- THE TEST BY WHAT IS SEEN is the one that is defined
pub seen-passes : (t : List ℕ) (c v n : ℕ) {r : Rule} {x : Slot} {left right y : Sight} {b : Bool}
    → rule_of n ≡ Some r → x ≡ slot_at t v → left ≡ sight_of t c x Left → right ≡ sight_of t c x Right
    → y ≡ on_side r.side left right → b ≡ due_seen t c r y
    → b ≡ passes true t c v n
unfolding passes
seen-passes t c v n {r} {b = b} e ex el er ey eb =
    let q : b ≡ due_seen t c r (sight_of t c (slot_at t v) r.side)
    = rw (eb, ey, el, er, ex, either t c (slot_at t v) r.side) refl in
    q ∙ due-seen t c r v ∙ simp e

-- the nodes of a rule that are there
module _ {t : List ℕ} {c : ℕ} {r : Rule} {v : ℕ} {x : Slot} (p : Present t c r v x) where
  pub u-there : InTable t (son x r.side)
  u-there =
      let k = named c _ (and_r (not (eqb (slot_at t v).state 0)) _ (and_l _ _ p.there)) in
      in_table _ p.sized (rw p.is k.0) (rw p.is k.1)

  pub w-there : has_third r.kind ≡ true → InTable t (son (slot_at t (son x r.side)) (other r.side))
  w-there h =
      let u = son (slot_at t v) r.side in
      let q = rw h at p.there in
      let k = named c _ (and_r (not (eqb (slot_at t v).state 0) && names c u) _ q) in
      in_table _ p.sized (rw p.is k.0) (rw p.is k.1)

pub nodes-third : (t : List ℕ) (r : Rule) (link : Link) (v : ℕ) {x y z : Slot} {u w : ℕ} {o : Side} → x ≡ slot_at t v
    → u ≡ son x r.side → y ≡ slot_at t u → has_third r.kind ≡ true
    → o ≡ other r.side → w ≡ son y o → z ≡ slot_at t w
    → record { link = link; v = v; u = u; w = w; sv = x; su = y; sw = z } ≡ nodes_at t r link v
nodes-third t r link v ex eu ey h eo ew ez = rw (ez, ew, eo, ey, eu, ex, h) refl

pub nodes-two : (t : List ℕ) (r : Rule) (link : Link) (v : ℕ) {x y : Slot} {u : ℕ} → x ≡ slot_at t v
    → u ≡ son x r.side → y ≡ slot_at t u → has_third r.kind ≡ false
    → record { link = link; v = v; u = u; w = u; sv = x; su = y; sw = y } ≡ nodes_at t r link v
nodes-two t r link v ex eu ey h = rw (ey, eu, ex, h) refl
