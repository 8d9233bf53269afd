-- A rule that is due may be fired, and what that leaves. Assumes nothing.
use Prim.Native.Nat.{ℕ, ◌≤◌}
use mathlib.Core.Path.{◌≡◌, refl, sym, ◌∙◌, ap}
use mathlib.Core.Bool.{true, false}
use mathlib.Core.List.{List}
use native.Mathlib.Omega.{arith}
use borrow.Author.Tests.{leb-true}
use Rattle.scope.proofs.Bools.{and_r}
use Rattle.scope.specs.Table.{written}
use Rattle.scope.specs.Edits.{writes}
use Rattle.scope.specs.Rules.{propagated, action, highest_at}
use Rattle.scope.specs.Fire.{has_third}
use Rattle.scope.specs.Tidy.{nodes_at, holds_at, due_at, passes, fired_at, link_to}
use Rattle.scope.specs.declared.rule.Kind.{Kind}
use Rattle.scope.specs.declared.rule.Kind.TheVariants.{Propagate}
use Rattle.scope.specs.declared.rule.Rule.{Rule}
use Rattle.scope.specs.declared.outcome.Nodes.{Nodes}
use Rattle.bridge.specs.Due.{Due}
use Rattle.fire_aim.specs.Aimed.{NodesInside}
use Rattle.fire_act.specs.Wrote.{Kept}
use Rattle.fire_act.proofs.Acting.{acted}
use Rattle.tidy_holders.specs.Holds.{noted}
use Rattle.tidy_holders.specs.declared.entry.Holders.{Holders}
use Rattle.tidy_holders.specs.Codes.{above_of}
use Rattle.tidy_holders.specs.Away.{Unnoted}
use Rattle.tidy_holders.proofs.Noting.Noted.{none-noted}
use Rattle.tidy_holders.proofs.Leaving.DueNodes.{node-slots, nodes-lie, fired-is, whole_again}
use Rattle.tidy_holders.proofs.Leaving.DueNodes.{away, holds-again, may-move, above-one, above-two}
use Rattle.tidy_holders.proofs.Leaving.AsBefore.{as_before}
use Rattle.tidy_sight.proofs.Unlisted.{may-not-be-due}
use Rattle.tidy.specs.Reviewed.{SlotIn, Reviewed, looked, passed, Without, Around, NodesReviewed}
use Rattle.tidy.specs.Firing.{MayAct, Acted, ToFire, AfterFiring}
use Rattle.tidy.specs.declared.notes.Notes.{Notes}
use Rattle.tidy.proofs.Reviewing.{one-looked, as-without}

-- the action of a rule of this kind, and the links noted
module _ {t : List ℕ} {h : Holders} {c : ℕ} {r : Rule} {x : Nodes} (p : MayAct t c r x) {t' : List ℕ} where
  pub acted-alone : r.kind ≡ Propagate → Kept c (written t (writes (propagated r.side x))) t' → Acted t h c r x t' h
  acted-alone e a = record {
    words = acted p.sized p.within Propagate e a;
    links = none-noted h.links x r.side e;
  }

  pub acted-noted : (k : Kind) → r.kind ≡ k → Kept c (written t (writes (action k r.side x))) t' → {h' : Holders}
      → h'.links ≡ noted (action k r.side x) h.links
      → Acted t h c r x t' h'
  acted-noted k e a n = record { words = acted p.sized p.within k e a; links = rw e n }

low : (t : List ℕ) (c : ℕ) (r : Rule) (v : ℕ) → due_at t c r v ≡ true
    → highest_at r (nodes_at t r (link_to t c v) v) ≤ 65535
unfolding due_at highest_at
low t c r v d = leb-true _ _ (and_r (holds_at t c r v) _ d)

two-nodes : (t : List ℕ) (r : Rule) (v c : ℕ) → has_third r.kind ≡ false
    → (nodes_at t r (link_to t c v) v).w ≡ (nodes_at t r (link_to t c v) v).u
two-nodes t r v c e = rw e refl

module _ {t : List ℕ} {c : ℕ} {n : Notes} {r : Rule} {x : Nodes} (f : ToFire t c n r x) where
  abbrev h : List ℕ
  h = n.holders.links

  abbrev d : Due t c f.slot f.number
  d = f.due

  pub inside : NodesInside c x
  inside =
      let a = node-slots f.running.whole d in
      let b = nodes-lie f.running.whole d in
      rw f.nodes (record {
        holder = b.holder;
        v_first = a.v;
        v_most = b.v;
        u_first = a.u;
        u_most = b.u;
        w_first = a.w;
        w_most = b.w;
      })

  -- its action may be written and noted
  pub may-act : MayAct t c r x
  may-act = record {
    sized = f.running.whole.sized;
    within = record { nodes = inside; height = rw (f.rule, f.nodes) (low t c d.rule f.slot d.due) };
    moving = rw (f.rule, f.nodes) (may-move f.running.whole d);
  }

  -- the two slots above
  pub v_most : x.v ≤ 4095
  v_most = omega (arith, inside.v_most, f.running.whole.sized.most)

  module _ {a : ℕ} (p : a ≡ above_of h x.v) where
    one : a ≡ above_of h f.slot
    one = rw f.nodes at p

    above-slot : (1 ≤ a) × (a ≤ c)
    above-slot =
        let k = above-one f.running.whole d f.running.holds in
        (rw one k.first, rw one k.most)

    pub above_most : a ≤ 4095
    above_most = omega (arith, above-slot.1, f.running.whole.sized.most)

    module _ {b : ℕ} (q : b ≡ above_of h a) where
      upper-slot : (1 ≤ b) × (b ≤ c)
      upper-slot =
          let k = above-two f.running.whole d f.running.holds in
          (rw (q, one) k.first, rw (q, one) k.most)

      -- they and the nodes are then looked at
      module _ {t' : List ℕ} {h' : Holders} (g : Acted t n.holders c r x t' h') where
        pub nodes-around : Around t' c r.kind x
        nodes-around = record {
          sized = g.words.sized;
          nodes = inside;
          third = λ e. rw f.nodes (two-nodes t d.rule f.slot c (rw f.rule at e));
        }

        module _ {m₁ : List ℕ} (k : NodesReviewed t' c n.agenda x m₁) where
          pub at_above : SlotIn t' c a
          at_above = record {
            sized = g.words.sized;
            first = above-slot.0;
            most = above-slot.1;
          }

          module _ {m₂ : List ℕ} (k₂ : Reviewed t' c m₁ a m₂) where
            pub at-upper : SlotIn t' c b
            at-upper = record {
              sized = g.words.sized;
              first = upper-slot.0;
              most = upper-slot.1;
            }

            module _ {m₃ : List ℕ} (k₃ : Reviewed t' c m₂ b m₃) where
              around : Without t' c (Unnoted h x) n.agenda m₃
              around =
                  as-without (one-looked (one-looked k above-slot.0 k₂) upper-slot.0 k₃)
                  (λ j z. record {
                    node = z.0.0;
                    above = λ e. z.0.1 (e ∙ sym p);
                    upper = λ e. z.1 (e ∙ ap (above_of h) (sym p) ∙ sym q);
                  })

              is-fired : t' ≡ fired_at t c f.slot f.number
              is-fired = rw (f.rule, f.nodes) at g.words.is ∙ sym (fired-is f.running.whole d)

              still-none : (j : ℕ) → 1 ≤ j → j ≤ c → Unnoted h x j → (k : ℕ)
                  → passes true t' c j k ≡ passes true t c j k
              still-none j i l z k =
                  rw is-fired
                  (as_before f.running.whole d j i l
                  (away f.running.whole d f.running.holds j i l (rw f.nodes at z)) true k)

              pub fired-so : AfterFiring t c r x t' (record { holders = h'; agenda = m₃ })
              fired-so = record {
                is = g.words.is;
                running = record {
                  whole = rw is-fired (whole_again f.running.whole d);
                  holds = rw (is-fired, rw (f.rule, f.nodes) at g.links)
                      (holds-again f.running.whole d f.running.holds n.holders.room);
                  listed = record {
                    zero = around.zero f.running.listed.zero;
                    unlisted = λ j i l e.
                        elim (around.unlisted j (omega (arith, f.running.whole.sized.most)) e) [
                          | looked z ↦ λ k p q. may-not-be-due t' c j z k
                          | passed z o ↦ λ k p q. still-none j i l z k ∙ f.running.listed.unlisted j i l o k p q
                        ];
                  };
                };
              }
