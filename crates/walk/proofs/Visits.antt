-- The walk under way: one law for each way on or out. Assumes nothing.
use Prim.Native.Nat.{ℕ, zero, suc, ◌+◌, ◌-◌, ◌≤◌}
use mathlib.Core.Path.{◌≡◌, refl, sym, ◌∙◌}
use mathlib.Core.Bool.{Bool, true, false, not}
use mathlib.Core.List.{List}
use native.Mathlib.Omega.{arith}
use borrow.Author.Tests.{eq-eqb, ne_eqb, leb-true, leb-false}
use lib.Dec.{ltb, leb}
use Rattle.scope.proofs.Bools.{and_l, and_r, by_bool, not-true, not-false}
use Rattle.scope.specs.Numbers.{root_link}
use Rattle.scope.specs.Table.{word, root_word, slot_at, son}
use Rattle.scope.specs.Fit.{fit_slot}
use Rattle.scope.specs.Walk.{step_of, on_step, none_passed, passing, walk_from, walk_of}
use Rattle.scope.specs.declared.slot.Slot.{Slot}
use Rattle.scope.specs.declared.side.Side.{Side}
use Rattle.scope.specs.declared.side.Link.{Link}
use Rattle.scope.specs.declared.outcome.Step.TheVariants.{Here, Down, Broken}
use Rattle.scope.specs.declared.outcome.Passed.{Passed}
use Rattle.scope.specs.declared.outcome.Walk.TheVariants.{Hit, Miss, Damage}
use Rattle.spelling.specs.Ready.{Ready}
use Rattle.spelling.proofs.Laws.{fit-left, fit-right}
use Rattle.gate.specs.Parts.{visit_ok}
use Rattle.walk.specs.Walked.{Walked, way_of}

-- what a slot says that is not fit
unfit : (c key : ℕ) (s : Slot) → fit_slot c s ≡ false → step_of c key s ≡ Broken
unfolding step_of
unfit c key s f = simp f

-- what a fit slot with the key says
holds : (c key : ℕ) (s : Slot) → fit_slot c s ≡ true → key ≡ s.key → step_of c key s ≡ Here
unfolding step_of
holds c key s f e = simp (f, eq-eqb key s.key e)

-- what a fit slot with another key says
leads : (c key : ℕ) (s : Slot) → fit_slot c s ≡ true → (key ≡ s.key → ⊥)
    → step_of c key s ≡ Down (way_of key s) (son s (way_of key s))
unfolding step_of way_of
leads c key s f ne =
    by_bool (ltb key s.key)
    (λ p. simp (f, ne_eqb key s.key ne, p))
    (λ p. simp (f, ne_eqb key s.key ne, p))

-- where it leads is a slot of the table, or 0
way-le : (c key : ℕ) (s : Slot) → fit_slot c s ≡ true → son s (way_of key s) ≤ c
unfolding way_of
way-le c key s f =
    by_bool (ltb key s.key)
    (λ p. rw p (fit-left c s f).0)
    (λ p. rw p (fit-right c s f).0)

-- what the walk does at its three kinds of place
module _ (t : List ℕ) (c key : ℕ) where
  at_end : (n at : ℕ) (link : Link) (passed : Passed) (seen : ℕ) → at ≡ 0
      → walk_from t c key n at link passed seen ≡ Miss passed link seen
  unfolding walk_from
  at_end zero at link passed seen z = simp (eq-eqb _ _ z)
  at_end (suc n) at link passed seen z = simp (eq-eqb _ _ z)

  spent : (n at : ℕ) (link : Link) (passed : Passed) (seen : ℕ) → n ≡ 0 → (at ≡ 0 → ⊥)
      → walk_from t c key n at link passed seen ≡ Damage
  unfolding walk_from
  spent n at link passed seen e z = rw e (simp (ne_eqb _ _ z))

  visit : (n m at : ℕ) (link : Link) (passed : Passed) (seen : ℕ) → n ≡ suc m → (at ≡ 0 → ⊥)
      → walk_from t c key n at link passed seen
      ≡ on_step (step_of c key (slot_at t at)) (Hit at link (seen + 1))
      (λ side next.
      walk_from t c key m next (record { holder = at; side = side }) (passing side (slot_at t at).key passed) (seen + 1))
  unfolding walk_from
  visit n m at link passed seen e z = rw e (simp (ne_eqb at 0 z))

-- the whole walk is what is still to be walked, from the link to slot `at` or to nothing, with the last keys passed and `seen`
-- slots visited
pub record Heading (t : List ℕ) (c key at : ℕ) (link : Link) (passed : Passed) (seen : ℕ) : Type 0 where
  pub rest : walk_of t c key ≡ walk_from t c key (c - seen) at link passed seen
  pub at_le : at ≤ c
  pub holder_le : link.holder ≤ c
  pub seen_le : seen ≤ c

module _ {t : List ℕ} {c key : ℕ} where
  pub begins : Ready t c → Heading t c key (word t root_word) root_link none_passed 0
  unfolding walk_of
  begins r =
      let e : c - 0 ≡ c = omega arith in
      record { rest = rw e refl; at_le = r.root; holder_le = omega arith; seen_le = omega arith }

  module _ {at : ℕ} {link : Link} {passed : Passed} {seen : ℕ} (h : Heading t c key at link passed seen) where
    pub ends-empty : at ≡ 0 → Walked t c key (Miss passed link seen)
    ends-empty z =
        record { is = sym (h.rest ∙ at_end t c key (c - seen) at link passed seen z); inside = (h.holder_le, h.seen_le) }

  -- the walk heads for slot `at`, which was read as s and leads to `next` on a side, and is asked whether the visit is in order
  module _ {at : ℕ} {link : Link} {passed : Passed} {seen : ℕ} (h : Heading t c key at link passed seen)
      (some : at ≡ 0 → ⊥) {s : Slot} {side : Side} {next : ℕ} (read : s ≡ slot_at t at) (turned : side ≡ way_of key s)
      (led : next ≡ son s side) {b : Bool} (asked : b ≡ visit_ok c (seen + 1) s) where
    -- one visit more, and the whole walk is what this slot makes of it
    module _ (more : seen + 1 ≤ c) where
      visited : walk_of t c key
          ≡ on_step (step_of c key s) (Hit at link (seen + 1))
          (λ side next.
          walk_from t c key (c - (seen + 1)) next (record { holder = at; side = side }) (passing side s.key passed) (seen + 1))
      visited =
          rw read (h.rest ∙ visit t c key (c - seen) (c - (seen + 1)) at link passed seen (omega (arith, more)) some)

    -- the visit is one too many, or the slot is not fit
    pub ends-broken : not b ≡ true → Walked t c key Damage
    ends-broken n =
        by_bool (leb (seen + 1) c)
        (λ p. let f = sym (simp p at asked) ∙ not-true b n in
        record { is = sym (rw (unfit c key s f) at (visited (leb-true (seen + 1) c p))); inside = tt })
        (λ p. let l = leb-false (seen + 1) c p in
        record { is = sym (h.rest ∙ spent t c key (c - seen) at link passed seen (omega (arith, l, h.seen_le)) some); inside = tt })

    -- the visit is in order
    module _ (n : not b ≡ false) where
      passes : visit_ok c (seen + 1) s ≡ true
      passes = sym asked ∙ not-false b n

      pub one_more : seen + 1 ≤ c
      one_more = leb-true (seen + 1) c (and_l (leb (seen + 1) c) (fit_slot c s) passes)

      fits : fit_slot c s ≡ true
      fits = and_r (leb (seen + 1) c) (fit_slot c s) passes

      pub ends-here : key ≡ s.key → Walked t c key (Hit at link (seen + 1))
      ends-here e =
          record {
            is = sym (rw (holds c key s fits e) at (visited one_more));
            inside = (omega (arith, some), h.at_le, h.holder_le, omega arith, one_more);
          }

      pub passes_on : (key ≡ s.key → ⊥) → {p : Passed} → p ≡ passing side s.key passed
          → Heading t c key next (record { holder = at; side = side }) p (seen + 1)
      passes_on other kept =
          record {
            rest = rw (kept, led, turned) (rw (leads c key s fits other) at (visited one_more));
            at_le = rw (led, turned) (way-le c key s fits);
            holder_le = h.at_le;
            seen_le = one_more;
          }
