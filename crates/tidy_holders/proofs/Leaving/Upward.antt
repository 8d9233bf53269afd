-- The slot above a slot, by what is noted: it holds a link to it, and a record. Assumes nothing.
use Prim.Native.Nat.{ℕ, ◌≤◌}
use mathlib.Core.Path.{◌≡◌, refl, sym, ◌∙◌, ap}
use mathlib.Core.List.{List}
use native.Mathlib.Omega.{arith}
use native.Mathlib.Decide.{ℕ_discrete}
use lib.ListN.{get_or}
use borrow.Author.Tests.{eqb-false, eq-eqb, ne_eqb}
use Rattle.scope.specs.Numbers.{root_link}
use Rattle.scope.specs.Table.{word, root_word, slot_at, link_at}
use Rattle.scope.specs.Tree.{times}
use Rattle.scope.specs.declared.side.Link.{Link}
use Rattle.scope.specs.declared.outcome.Nodes.{Nodes}
use Rattle.spelling.proofs.Laws.{fits}
use Rattle.spelling.specs.Whole.{Whole}
use Rattle.spelling.proofs.Laws.{link-son}
use Rattle.bridge.proofs.Firing.Along.{some-state}
use Rattle.bridge.proofs.Links.Ways.{leads-holder}
use Rattle.tree.proofs.Firing.Place.{same_none}
use Rattle.bridge.proofs.Firing.Fires.{hangs-root}
use Rattle.bridge.proofs.Records.Free.{reached-fit}
use Rattle.bridge.proofs.Firing.Calls.{LinkIn}
use Rattle.bridge.proofs.Links.Held.{way-to, some-link}
use Rattle.tidy_holders.specs.Codes.{link_for, link_number, above_of}
use Rattle.tidy_holders.specs.Holds.{AllNoted}
use Rattle.tidy_holders.specs.Away.{Elsewhere, Unnoted}
use Rattle.tidy_holders.proofs.Noting.Links.{code_in, held_link}
use Rattle.tidy_holders.proofs.Leaving.Elsewhere.{half}

module _ {t : List ℕ} {c : ℕ} {h : List ℕ} (o : AllNoted t c h) where
  pub noted-at : (l : Link) → LinkIn c l → 1 ≤ word t (link_at l) → get_or h (word t (link_at l)) 0 ≡ link_number l
  noted-at l i p =
      ap (λ (k : ℕ). get_or h k 0) (sym (held_link t l)) ∙ o.is (link_number l) (code_in l i) (rw (held_link t l) p)

  -- the slot above is the holder of the link, or at the root the slot itself
  above-held : (l : Link) → LinkIn c l → 1 ≤ word t (link_at l) → (l.holder ≡ 0 → ⊥)
      → above_of h (word t (link_at l)) ≡ l.holder
  unfolding above_of
  above-held l i p ne = rw (noted-at l i p, half l.holder l.side, ne_eqb l.holder 0 ne) refl

  module _ (l : Link) (i : LinkIn c l) (p : 1 ≤ word t (link_at l)) where
    above_root : l.holder ≡ 0 → above_of h (word t (link_at l)) ≡ word t (link_at l)
    unfolding above_of
    above_root e = rw (noted-at l i p, half l.holder l.side, eq-eqb l.holder 0 e) refl

    -- AWAY BY WHAT IS NOTED is away
    pub unnoted-away : (n : Nodes) → n.link ≡ l → n.v ≡ word t (link_at l) → (x : ℕ) → 1 ≤ x → x ≤ c → Unnoted h n x
        → Elsewhere t n x
    unnoted-away n e f x j k a =
        let up : (n.link.holder ≡ 0 → ⊥) → above_of h n.v ≡ n.link.holder = rw (e, f) (above-held l i p) in
        record {
          node = a.node;
          above = λ q. a.above (q ∙ sym (up (λ z. omega arith)));
          upper = λ s g q.
              let in-x : LinkIn c (link_for x s) = record { most = k; root = λ z. absurd (omega arith) } in
              let b = link-son t (link_for x s) j in
              let d : above_of h n.link.holder ≡ x
              = rw (b ∙ q) at (above-held (link_for x s) in-x (rw (b, q) g) (λ z. omega arith)) in
              a.upper (sym d ∙ ap (above_of h) (sym (up (λ z. omega arith))));
        }

-- slot k holds a record
pub record Record (t : List ℕ) (c k : ℕ) : Type 0 where
  pub first : 1 ≤ k
  pub most : k ≤ c
  pub some : (slot_at t k).state ≡ 0 → ⊥

module _ {t : List ℕ} {c : ℕ} (wh : Whole t c) where
  -- the holder of a link that is not empty
  holder-record : (l : Link) → LinkIn c l → 1 ≤ word t (link_at l) → (l.holder ≡ 0 → ⊥) → Record t c l.holder
  holder-record l i h ne =
      let T = wh.sound.tree in
      let p = way-to wh l i h in
      let k = rw p.ends at (leads-holder t c p.way root_link T p.tree (hangs-root wh).spells p.there) in
      let once : 1 ≤ times l.holder T = omega (arith, k, same_none l.holder 0 ne) in
      let f = reached-fit t c l.holder (word t root_word) T wh.sound.reached once in
      record {
        first = omega arith;
        most = i.most;
        some = eqb-false _ _ (some-state _ (fits c (slot_at t l.holder) f).state);
      }

  -- ABOVE A RECORD IS A RECORD
  pub above-record : {h : List ℕ} → AllNoted t c h → (k : ℕ) → Record t c k → Record t c (above_of h k)
  above-record {h} o k r =
      let x = some-link wh k r.first r.most r.some in
      let l = x.link in
      let p : 1 ≤ word t (link_at l) = rw x.is r.first in
      elim (ℕ_discrete l.holder 0) [
        | yes z ↦ let e = rw x.is at (above_root o l x.link_in p z) in rw e r
        | no ne ↦
            let e = rw x.is at (above-held o l x.link_in p ne) in
            rw e (holder-record l x.link_in p ne)
      ]
