-- What a firing at a link is, where one comes out: the rule, its nodes, and that it is due. Assumes nothing.
use Prim.Native.Nat.{ℕ, ◌≤◌}
use mathlib.Core.Path.{◌≡◌, refl, sym, ◌∙◌}
use mathlib.Core.Bool.{Bool, true, not, ◌&&◌}
use mathlib.Core.List.{List}
use native.Mathlib.Omega.{arith}
use lib.Dec.{leb, eqb}
use borrow.Author.Tests.{eqb-false, le-leb, ne_eqb}
use Rattle.scope.proofs.Bools.{and_l, by_bool, never}
use Rattle.scope.specs.Numbers.{other, most_height}
use Rattle.scope.specs.Table.{word, slot_at, son, link_at}
use Rattle.scope.specs.Fit.{fit_slot}
use Rattle.scope.specs.Rules.{guard_at, highest_at}
use Rattle.scope.specs.Fire.{take_of, judged, has_third, aim_w, aim_u, aim_v, aim}
use Rattle.scope.specs.Answers.{and_then}
use Rattle.scope.specs.Tidy.{nodes_at, holds_at, due_at}
use Rattle.scope.specs.declared.slot.Slot.{Slot}
use Rattle.scope.specs.declared.side.Link.{Link}
use Rattle.scope.specs.declared.rule.Rule.{Rule}
use Rattle.scope.specs.declared.answer.Refusal.{Refusal}
use Rattle.scope.specs.declared.outcome.Nodes.{Nodes}
use Rattle.spelling.proofs.Laws.{fits, fit-son}
use Rattle.bridge.proofs.Firing.Along.{some-state}
use Rattle.std.specs.Prelude.{Result, Ok, Err}

-- the rule is due at the slot in the link, and this is its firing there
pub record FiresDue (t : List ℕ) (c : ℕ) (r : Rule) (l : Link) : Type 0 where
  pub first : 1 ≤ word t (link_at l)
  pub due : due_at t c r (word t (link_at l)) ≡ true
  pub is : aim t c r l ≡ Ok (r, (nodes_at t r l (word t (link_at l))))

all-five : {a b d g h : Bool} → a ≡ true → b ≡ true → d ≡ true → g ≡ true → h ≡ true → (a && b && d && g && h) ≡ true
all-five p q r s t = rw (p, q, r, s, t) refl

module _ (q : Rule) (n : Nodes) where
  -- a refusal is no firing
  refuses {ℓ} : {X : Type ℓ} {why : Refusal} → ◌≡◌ {A = Result (Rule × Nodes) Refusal} (Err why) (Ok (q, n)) → X
  refuses e = never cc

  -- a slot that a firing took is there and fit
  taken : {X : Type 0} (t : List ℕ) (c k a b e : ℕ) (f : Slot → Result (Rule × Nodes) Refusal) → and_then (take_of t c k a b e) f ≡ Ok (q, n)
      → (1 ≤ k → fit_slot c (slot_at t k) ≡ true → f (slot_at t k) ≡ Ok (q, n) → X) → X
  unfolding take_of
  taken t c k a b e f h go =
      by_bool (eqb k 0)
      (λ p. refuses (simp p at h))
      (λ p. by_bool (fit_slot c (slot_at t k) && not (eqb k a) && not (eqb k b) && not (eqb k e))
      (λ s. go (omega (arith, eqb-false k 0 p))
      (and_l _ (not (eqb k a)) (and_l _ (not (eqb k b)) (and_l _ (not (eqb k e)) s))) (simp (p, s) at h))
      (λ s. refuses (simp (p, s) at h)))

  -- and passed its guard and its limit
  record Judged (r : Rule) (m : Nodes) : Type 0 where
    guard : guard_at r m ≡ true
    low : leb (highest_at r m) most_height ≡ true
    is : ◌≡◌ {A = Result (Rule × Nodes) Refusal} (Ok (q, n)) (Ok (r, m))

  judged-so : (r : Rule) (m : Nodes) → judged r m ≡ Ok (q, n) → Judged r m
  unfolding judged
  judged-so r m h =
      by_bool (guard_at r m)
      (λ a. by_bool (leb (highest_at r m) most_height)
      (λ b. record { guard = a; low = b; is = sym (simp (a, b) at h) })
      (λ b. refuses (simp (a, b) at h)))
      (λ a. refuses (simp a at h))

  module _ (t : List ℕ) (c : ℕ) (r : Rule) (l : Link) where
    abbrev v : ℕ
    v = word t (link_at l)

    abbrev u : ℕ
    u = son (slot_at t v) r.side

    abbrev w : ℕ
    w = son (slot_at t u) (other r.side)

    abbrev nodes : Nodes
    nodes = nodes_at t r l v

    record Seen : Type 0 where
      v_first : 1 ≤ v
      v_fit : fit_slot c (slot_at t v) ≡ true
      u_first : 1 ≤ u
      w_first : 1 ≤ nodes.w
      w_most : nodes.w ≤ c
      judged : Judged r nodes

    module _ (i : 1 ≤ v) (f : fit_slot c (slot_at t v) ≡ true) where
      aimed-w : 1 ≤ u → fit_slot c (slot_at t u) ≡ true → has_third r.kind ≡ true
          → aim_w t c r l v (slot_at t v) u (slot_at t u) ≡ Ok (q, n) → Seen
      unfolding aim_w
      aimed-w j g e h =
          taken t c w l.holder v u _ h
          (λ k o x. record {
            v_first = i;
            v_fit = f;
            u_first = j;
            w_first = rw e k;
            w_most = rw e (fit-son c (slot_at t u) (other r.side) g);
            judged = rw e (judged-so r _ x);
          })

      aimed-u : aim_u t c r l v (slot_at t v) ≡ Ok (q, n) → Seen
      unfolding aim_u
      aimed-u h =
          taken t c u l.holder v 0 _ h
          (λ j g x. by_bool (has_third r.kind)
          (λ e. aimed-w j g e (simp e at x))
          (λ e. record {
            v_first = i;
            v_fit = f;
            u_first = j;
            w_first = rw e j;
            w_most = rw e (fit-son c (slot_at t v) r.side f);
            judged = rw e (judged-so r _ (simp e at x));
          }))

    aimed-v : aim_v t c r l ≡ Ok (q, n) → Seen
    unfolding aim_v
    aimed-v h = taken t c v l.holder 0 0 _ h aimed-u

    aimed-so : aim t c r l ≡ Ok (q, n) → Seen
    unfolding aim
    aimed-so h =
        by_bool (eqb l.holder 0)
        (λ a. aimed-v (simp a at h))
        (λ a. by_bool (eqb (slot_at t l.holder).state 0)
        (λ b. refuses (simp (a, b) at h))
        (λ b. by_bool (fit_slot c (slot_at t l.holder))
        (λ d. aimed-v (simp (a, b, d) at h))
        (λ d. refuses (simp (a, b, d) at h))))

    there : (k : ℕ) → 1 ≤ k → k ≤ c → (not (eqb k 0) && leb k c) ≡ true
    there k i j = rw (ne_eqb k 0 (λ z. omega arith), le-leb k c j) refl

    due-so : Seen → due_at t c r v ≡ true
    unfolding due_at holds_at guard_at highest_at
    due-so s =
        let f = fits c (slot_at t v) s.v_fit in
        let state : not (eqb (slot_at t v).state 0) ≡ true = rw (some-state _ f.state) refl in
        let at-u = there u s.u_first (fit-son c (slot_at t v) r.side s.v_fit) in
        let at-w = there nodes.w s.w_first s.w_most in
        all-five state at-u at-w s.judged.guard s.judged.low

    -- A FIRING THAT COMES OUT is that of a due rule, with its own nodes
    pub fires-so : aim t c r l ≡ Ok (q, n) → FiresDue t c r l
    fires-so h =
        let s = aimed-so h in
        record { first = s.v_first; due = due-so s; is = h ∙ s.judged.is }
