-- How a firing is aimed, node by node: one law for each way that a taken or refused slot leads. Assumes nothing.
use Prim.Native.Nat.{ℕ, ◌≤◌}
use mathlib.Core.Path.{◌≡◌, ◌∙◌}
use mathlib.Core.Bool.{true, false}
use mathlib.Core.List.{List}
use native.Mathlib.Omega.{arith}
use borrow.Author.Tests.{eq-eqb, ne_eqb}
use Rattle.scope.specs.Numbers.{other}
use Rattle.scope.specs.Table.{word, slot_at, son, link_at}
use Rattle.scope.specs.Fit.{fit_slot}
use Rattle.scope.specs.Fire.{take_of, judged, has_third, aim_w, aim_u, aim_v, aim}
use Rattle.scope.specs.declared.slot.Slot.{Slot}
use Rattle.scope.specs.declared.side.Link.{Link}
use Rattle.scope.specs.declared.rule.Rule.{Rule}
use Rattle.scope.specs.declared.answer.Refusal.{Refusal}
use Rattle.scope.specs.declared.answer.Refusal.TheVariants.{Damaged, GuardFails}
use Rattle.scope.specs.declared.outcome.Nodes.{Nodes}
use Rattle.spelling.specs.Ready.{Ready}
use Rattle.spelling.proofs.Laws.{fit-son, link-son}
use Rattle.fire_aim.specs.Aimed.{LinkReached, Nearby, NodesInside, Aimed}
use Rattle.fire_aim.proofs.Taking.{took}
use Rattle.fire_aim.proofs.Judging.{may-judged}
use Rattle.std.specs.Prelude.{Result, Ok, Err}

-- a judged firing may be carried out where its nodes lie in the table
judged-at : (c : ℕ) (r : Rule) (n : Nodes) {plan f : (Result (Rule × Nodes) Refusal)} → NodesInside c n → judged r n ≡ plan → f ≡ judged r n → Aimed c plan f
judged-at c r n i p q = record { is = q ∙ p; may = rw q (may-judged c r n i) }

inside : {t : List ℕ} {c : ℕ} {link : Link} {v u w : ℕ} {sv su sw : Slot} → Nearby t c link v → 1 ≤ u → u ≤ c → 1 ≤ w → w ≤ c
    → NodesInside c (record { link = link; v = v; u = u; w = w; sv = sv; su = su; sw = sw })
inside n a b d e = record {
  holder = n.holder;
  v_first = n.first;
  v_most = n.most;
  u_first = a;
  u_most = b;
  w_first = d;
  w_most = e;
}

module _ {t : List ℕ} {c : ℕ} {link : Link} {v : ℕ} (n : Nearby t c link v) (r : Rule) (sv : Slot) where
  -- w, in slot `w`
  module _ (u : ℕ) (su : Slot) (w : ℕ) (at : w ≡ son su (other r.side)) where
    pub aim-w-not : {why : Refusal} → take_of t c w link.holder v u ≡ Err why → Aimed c (aim_w t c r link v sv u su) (Err why)
    unfolding aim_w
    aim-w-not q = let p = rw at at q in record { is = simp p; may = tt }

    pub aim-w-got : {sw : Slot} {f : (Result (Rule × Nodes) Refusal)} → 1 ≤ u → u ≤ c → w ≤ c → take_of t c w link.holder v u ≡ Ok sw
        → f ≡ judged r (record { link = link; v = v; u = u; w = w; sv = sv; su = su; sw = sw }) → Aimed c (aim_w t c r link v sv u su) f
    unfolding aim_w
    aim-w-got {sw} {f} a b d q j =
        let p = rw at at q in
        judged-at c r _ (inside n a b (took t c w link.holder v u q).first d) (simp (at, p)) j

  -- u, in slot `u`
  module _ (u : ℕ) (at : u ≡ son sv r.side) where
    pub aim-u-not : {why : Refusal} → take_of t c u link.holder v 0 ≡ Err why → Aimed c (aim_u t c r link v sv) (Err why)
    unfolding aim_u
    aim-u-not q = let p = rw at at q in record { is = simp p; may = tt }

    pub aim-u-third : {su : Slot} {f : (Result (Rule × Nodes) Refusal)} → take_of t c u link.holder v 0 ≡ Ok su → has_third r.kind ≡ true
        → Aimed c (aim_w t c r link v sv u su) f → Aimed c (aim_u t c r link v sv) f
    unfolding aim_u
    aim-u-third q h a = let p = rw at at q in record { is = a.is ∙ simp (p, h, at); may = a.may }

    pub aim-u-got : {su : Slot} {f : (Result (Rule × Nodes) Refusal)} → u ≤ c → take_of t c u link.holder v 0 ≡ Ok su
        → has_third r.kind ≡ false
        → f ≡ judged r (record { link = link; v = v; u = u; w = u; sv = sv; su = su; sw = su }) → Aimed c (aim_u t c r link v sv) f
    unfolding aim_u
    aim-u-got {su} {f} b q h j =
        let p = rw at at q in
        let k = (took t c u link.holder v 0 q).first in
        judged-at c r _ (inside n k b k b) (simp (at, p, h)) j

-- v, in slot `v`
module _ {t : List ℕ} {c : ℕ} {link : Link} (o : LinkReached t c link) (r : Rule) (v : ℕ) (at : v ≡ word t (link_at link)) where
  pub aim-v-not : {why : Refusal} → take_of t c v link.holder 0 0 ≡ Err why → Aimed c (aim_v t c r link) (Err why)
  unfolding aim_v
  aim-v-not q = let p = rw at at q in record { is = simp p; may = tt }

  pub aim-v-near : {sv : Slot} → take_of t c v link.holder 0 0 ≡ Ok sv → Nearby t c link v × (son sv r.side ≤ c)
  aim-v-near {sv} q =
      let k = took t c v link.holder 0 0 q in (
        record { sized = o.sized; holder = o.holder; first = k.first; most = rw at o.holds },
        fit-son c sv r.side k.fit,
      )

  pub aim-v-got : {sv : Slot} {f : (Result (Rule × Nodes) Refusal)} → take_of t c v link.holder 0 0 ≡ Ok sv
      → Aimed c (aim_u t c r link v sv) f → Aimed c (aim_v t c r link) f
  unfolding aim_v
  aim-v-got q a = let p = rw at at q in record { is = a.is ∙ simp (p, at); may = a.may }

-- the holder, which is none at the root's link
module _ {t : List ℕ} {c : ℕ} (g : Ready t c) (r : Rule) (link : Link) (le : link.holder ≤ c) where
  pub reached-root : link.holder ≡ 0 → LinkReached t c link
  unfolding link_at
  reached-root z = record { sized = g.sized; holder = le; holds = simp (eq-eqb _ _ z) g.root }

  pub aim-root : {f : (Result (Rule × Nodes) Refusal)} → link.holder ≡ 0 → Aimed c (aim_v t c r link) f → Aimed c (aim t c r link) f
  unfolding aim
  aim-root z a = record { is = a.is ∙ simp (eq-eqb _ _ z); may = a.may }

  -- the holder was read as s
  module _ (ne : link.holder ≡ 0 → ⊥) {s : Slot} (read : s ≡ slot_at t link.holder) where
    pub aim-free : s.state ≡ 0 → Aimed c (aim t c r link) (Err GuardFails)
    unfolding aim
    aim-free z = let p = rw read at z in record { is = simp (ne_eqb _ _ ne, eq-eqb _ _ p); may = tt }

    module _ (live : s.state ≡ 0 → ⊥) where
      pub reached-slot : fit_slot c s ≡ true → LinkReached t c link
      reached-slot f =
          let p = rw read at f in
          record {
            sized = g.sized;
            holder = le;
            holds = rw (link-son t link (omega arith))
                (fit-son c (slot_at t link.holder) link.side p);
          }

      pub aim-slot : {f : (Result (Rule × Nodes) Refusal)} → fit_slot c s ≡ true → Aimed c (aim_v t c r link) f → Aimed c (aim t c r link) f
      unfolding aim
      aim-slot f a =
          let p = rw read at f in
          let q = rw read at live in
          record { is = a.is ∙ simp (ne_eqb _ _ ne, ne_eqb _ _ q, p); may = a.may }

      pub aim-unfit : fit_slot c s ≡ false → Aimed c (aim t c r link) (Err Damaged)
      unfolding aim
      aim-unfit f =
          let p = rw read at f in
          let q = rw read at live in
          record { is = simp (ne_eqb _ _ ne, ne_eqb _ _ q, p); may = tt }
