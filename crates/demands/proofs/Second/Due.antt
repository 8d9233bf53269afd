-- Demand 2: the calls of fire that a sound table accepts are those of the rules that are due. Assumes nothing.
use Prim.Native.Nat.{ℕ, ◌≤◌}
use mathlib.Core.Path.{◌≡◌, refl, sym}
use mathlib.Core.Bool.{not, ◌&&◌}
use mathlib.Core.List.{List}
use native.Mathlib.Omega.{arith}
use native.Mathlib.Decide.{ℕ_discrete}
use lib.Dec.{eqb, ltb}
use borrow.Author.Tests.{eqb-true, ne_eqb, le-ltb}
use Rattle.scope.proofs.Bools.{by_bool, never}
use Rattle.scope.specs.Numbers.{root_link, side_of, link_of, known_link, rule_of}
use Rattle.scope.specs.Table.{word, link_at}
use Rattle.scope.specs.Fire.{aim, aimed, fire_plan, fired, fire_of}
use Rattle.scope.specs.Answers.{if_named}
use Rattle.scope.specs.Tidy.{link_to, next_of}
use Rattle.scope.specs.declared.rule.Rule.{Rule}
use Rattle.scope.specs.declared.side.Side.{Side}
use Rattle.scope.specs.declared.side.Side.TheVariants.{Left, Right}
use Rattle.scope.specs.declared.side.Link.{Link}
use Rattle.spelling.specs.Whole.{Whole}
use Rattle.bridge.specs.Leads.{side_number}
use Rattle.bridge.proofs.Firing.Along.{hangs-along}
use Rattle.bridge.proofs.Firing.Fires.{hangs-root}
use Rattle.bridge.proofs.Firing.Calls.{sized-slots, link-in}
use Rattle.bridge.proofs.Links.Held.{way-to, one_link}
use Rattle.bridge.proofs.Resting.Linked.{link-to}
use Rattle.bridge.proofs.Resting.Dues.{FiresDue, fires-so}
use Rattle.bridge.proofs.Resting.Meets.{v-some, due-meets}
use Rattle.bridge.specs.Due.{NotAfter}
use Rattle.bridge.proofs.Resting.Searches.{next-first}
use Rattle.demands.specs.Fires.{Trial, Accepted}
use Rattle.demands.specs.Tidying.{DueTrial}
use Rattle.demands.proofs.Open.{some-code}
use Rattle.std.specs.Prelude.{Option, Some, None, Result, Ok, Err}
use Rattle.scope.specs.declared.answer.Refusal.{Refusal}
use Rattle.scope.specs.declared.outcome.Nodes.{Nodes}

-- numbers that name a link are its own
side-numbers : (n : ℕ) (s : Side) → side_of n ≡ Some s → side_number s ≡ n
unfolding side_of
side-numbers n s e =
    by_bool (eqb n 0)
    (λ p. let q = simp p at e in let z = eqb-true n 0 p in cc)
    (λ p. by_bool (eqb n 1)
    (λ h. let q = simp (p, h) at e in let z = eqb-true n 1 h in cc)
    (λ h. let q = simp (p, h) at e in never cc))

known-numbers : (holder n : ℕ) (i : Option Side) (l : Link) → side_of n ≡ i → known_link holder n i ≡ Some l
    → (holder ≡ l.holder) × (n ≡ side_number l.side)
known-numbers holder n None l e q = never cc
known-numbers holder n (Some s) l e q =
    by_bool (eqb holder 0 && not (eqb n 0))
    (λ p. let x = simp p at q in never cc)
    (λ p. let x = simp p at q in
    let is : record { holder = holder; side = s } ≡ l = cc in
    rw (← is) (refl, sym (side-numbers n s e)))

link-numbers : (c holder side : ℕ) (l : Link) → link_of c holder side ≡ Some l
    → (holder ≡ l.holder) × (side ≡ side_number l.side)
unfolding link_of
link-numbers c holder side l e =
    by_bool (ltb c holder)
    (λ p. let x = simp p at e in never cc)
    (λ p. known-numbers holder side (side_of side) l refl (simp p at e))

-- a link of a table has its numbers
some-holder : (c k : ℕ) (s : Side) → k ≤ c → (k ≡ 0 → ⊥)
    → link_of c k (side_number s) ≡ Some (record { holder = k; side = s })
unfolding link_of side_of
some-holder c k Left h ne = rw (le-ltb c k h, ne_eqb k 0 ne) refl
some-holder c k Right h ne = rw (le-ltb c k h, ne_eqb k 0 ne) refl

root-known : (c : ℕ) → link_of c 0 0 ≡ Some root_link
unfolding link_of side_of
root-known c = rw (le-ltb c 0 (omega arith)) refl

pub link-known : (c : ℕ) (l : Link) → l.holder ≤ c → (l.holder ≡ 0 → l ≡ root_link)
    → link_of c l.holder (side_number l.side) ≡ Some l
link-known c l h r =
    elim (ℕ_discrete l.holder 0) [
      | yes z ↦ rw (r z) (root-known c)
      | no ne ↦ some-holder c l.holder l.side h ne
    ]

module _ {t : List ℕ} {c : ℕ} (w : Whole t c) where
  -- the slot at the link, and that its link is found
  at-link : (x : Trial) (r : Rule) (l : Link) → rule_of x.rule ≡ Some r
      → link_of c x.holder x.side ≡ Some l → FiresDue t c r l → DueTrial t c x
  at-link x r l a b f =
      let v = word t (link_at l) in
      let i = link-in c x.holder x.side l b in
      let p = way-to w l i f.first in
      let g = rw p.ends at (hangs-along p.way root_link w.sound.tree p.tree (hangs-root w) p.there) in
      let h = link-to w v f.first g.most (v-some (due-meets f.due)) in
      let same : link_to t c v ≡ l = one_link w (link_to t c v) l h.0 i h.1 (rw h.1 f.first) in
      let n = link-numbers c x.holder x.side l b in
      record {
        slot = v;
        due = record { rule = r; is = a; first = f.first; most = g.most; due = f.due };
        is = rw same (λ k. record { rule = x.rule; holder = n.0 k; side = n.1 k });
      }

  aims-out : (r : Rule) (l : Link) (f : Result (Rule × Nodes) Refusal) → aim t c r l ≡ f → (fired t f).answer.code ≡ 0 → FiresDue t c r l
  unfolding fired
  aims-out r l (Err why) e z = absurd (some-code why z)
  aims-out r l (Ok (q, n)) e z = fires-so q n t c r l e

  named : (x : Trial) (a : Option Rule) (b : Option Link) → rule_of x.rule ≡ a → link_of c x.holder x.side ≡ b
      → (fired t (if_named a (λ r. if_named b (λ l. aimed t c r l)))).answer.code ≡ 0 → DueTrial t c x
  unfolding fired aimed
  named x None b p q e = absurd (omega arith)
  named x (Some r) None p q e = absurd (omega arith)
  named x (Some r) (Some l) p q e =
      at-link x r l p q (aims-out r l (aim t c r l) refl (rw w.sound.header at e))

  -- WHAT FIRE ACCEPTS IS DUE, at the slot whose link it names
  pub accepted-due : (x : Trial) → Accepted t x → DueTrial t c x
  unfolding fire_of fire_plan
  accepted-due x e =
      named x (rule_of x.rule) (link_of c x.holder x.side) refl refl (rw (sized-slots w.sized) at e)

  -- THE RULE THAT IS NEXT COMES FIRST of all that are due: no lower slot, and no lower rule at the same slot
  pub first-accepted : (v n : ℕ) → next_of t c ≡ Some (v, n) → (x : Trial) (d : DueTrial t c x) → NotAfter v n d.slot x.rule
  first-accepted v n q x d = next-first t c v n q d.slot x.rule d.due
