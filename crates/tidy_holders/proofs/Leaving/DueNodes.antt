-- A rule that is due at a slot: its link, its nodes, and the table and the notes after its firing. Assumes nothing.
use Prim.Native.Nat.{ℕ, ◌≤◌}
use mathlib.Core.Path.{◌≡◌, refl, sym, ◌∙◌, ap}
use mathlib.Core.Bool.{true, not, ◌&&◌}
use mathlib.Core.List.{List}
use native.Mathlib.Omega.{arith}
use lib.Dec.{leb, eqb}
use lib.ListN.{length, get_or}
use borrow.Author.Tests.{leb-true, eqb-false, not-true}
use Rattle.scope.proofs.Bools.{and_l, and_r}
use Rattle.scope.specs.Numbers.{other}
use Rattle.scope.specs.Table.{word, slot_at, son, link_at, written}
use Rattle.scope.specs.Rules.{action, action_at}
use Rattle.scope.specs.Tidy.{nodes_at, present, fired_at, link_to}
use Rattle.scope.specs.declared.side.Side.{Side}
use Rattle.scope.specs.declared.side.Link.{Link}
use Rattle.scope.specs.declared.rule.Rule.{Rule}
use Rattle.scope.specs.declared.outcome.Nodes.{Nodes}
use Rattle.spelling.specs.Whole.{Whole}
use Rattle.bridge.specs.Due.{Due}
use Rattle.bridge.proofs.Firing.Calls.{LinkIn}
use Rattle.bridge.proofs.Resting.Linked.{link-to}
use Rattle.bridge.proofs.Resting.Meets.{due-meets, v-some}
use Rattle.tidy_holders.specs.Codes.{link_numbered, above_of}
use Rattle.tidy_holders.specs.Holds.{AllNoted, Moving, noted}
use Rattle.tidy_holders.specs.Away.{Elsewhere, Unnoted}
use Rattle.tidy_holders.proofs.Noting.Links.{code-link, son-in, held-son, held-most}
use Rattle.tidy_holders.proofs.Noting.Fired.{fired-holds, fired-whole}
use Rattle.tidy_holders.proofs.Noting.Acts.{AreSlots}
use Rattle.tidy_holders.proofs.Leaving.Untouched.{Lies}
use Rattle.tidy_holders.proofs.Leaving.Upward.{Record, noted-at, above-record, unnoted-away}

-- a number that names a slot
named : (c k : ℕ) → (not (eqb k 0) && leb k c) ≡ true → (1 ≤ k) × (k ≤ c)
named c k e = (omega (arith, eqb-false k 0 (not-true _ (and_l _ _ e))), leb-true k c (and_r (not (eqb k 0)) _ e))

module _ {t : List ℕ} {c : ℕ} (wh : Whole t c) {v n : ℕ} (d : Due t c v n) where
  abbrev r : Rule
  r = d.rule

  abbrev link : Link
  link = link_to t c v

  abbrev nodes : Nodes
  nodes = nodes_at t r link v

  there : present c nodes ≡ true
  there = (due-meets d.due).there

  pub linked : LinkIn c link × (word t (link_at link) ≡ v)
  linked = link-to wh v d.first d.most (v-some (due-meets d.due))

  at-u : (1 ≤ nodes.u) × (nodes.u ≤ c)
  at-u = named c nodes.u (and_r (not (eqb nodes.sv.state 0)) _ (and_l _ _ there))

  at-w : (1 ≤ nodes.w) × (nodes.w ≤ c)
  at-w =
      named c nodes.w
      (and_r (not (eqb nodes.sv.state 0) && (not (eqb nodes.u 0) && leb nodes.u c)) _ there)

  pub node-slots : AreSlots nodes
  node-slots = record { v = d.first; u = at-u.0; w = at-w.0 }

  pub nodes-lie : Lies c nodes
  nodes-lie = record { holder = linked.0.most; v = d.most; u = at-u.1; w = at-w.1 }

  son-most : (k : ℕ) (s : Side) → 1 ≤ k → k ≤ c → son (slot_at t k) s ≤ 4095
  son-most k s i j = omega (arith, rw (held-son t k s i) at (held-most wh _ (son-in k s i j)), wh.sized.most)

  pub fired-is : fired_at t c v n ≡ written t (action_at r nodes)
  unfolding fired_at
  fired-is = rw d.is refl

  -- THE TABLE IS SOUND AGAIN
  pub whole_again : Whole (fired_at t c v n) c
  whole_again = rw fired-is (fired-whole wh r v d.first d.most d.due)

  pub may-move : Moving nodes r.side
  may-move = record {
    holder = omega (arith, nodes-lie.holder, wh.sized.most);
    v_most = omega (arith, d.most, wh.sized.most);
    u_most = omega (arith, at-u.1, wh.sized.most);
    w_most = omega (arith, at-w.1, wh.sized.most);
    u_far = son-most nodes.u (other r.side) at-u.0 at-u.1;
    w_near = son-most nodes.w r.side at-w.0 at-w.1;
    w_far = son-most nodes.w (other r.side) at-w.0 at-w.1;
  }

  module _ {h : List ℕ} (o : AllNoted t c h) where
    -- THE LINK THAT IS NOTED is the one that is looked up
    pub link-noted : link_numbered (get_or h v 0) ≡ link
    link-noted =
        let p = rw linked.1 at (noted-at o link linked.0 (rw linked.1 d.first)) in
        ap link_numbered p ∙ code-link link.holder link.side

    -- EVERY SLOT IS NOTED WHERE IT HANGS AGAIN
    pub holds-again : length h ≡ 4096 → AllNoted (fired_at t c v n) c (noted (action r.kind r.side nodes) h)
    holds-again room =
        let j : AreSlots (nodes_at t r link (word t (link_at link))) = rw linked.1 node-slots in
        rw fired-is (rw linked.1 at (fired-holds wh link linked.0 room o r j))

    -- a slot that is not looked at again is away from the firing
    pub away : (x : ℕ) → 1 ≤ x → x ≤ c → Unnoted h nodes x → Elsewhere t nodes x
    away = unnoted-away o link linked.0 (rw linked.1 d.first) nodes refl (sym linked.1)

    -- the two slots above v
    pub above-one : Record t c (above_of h v)
    above-one = above-record wh o v (record { first = d.first; most = d.most; some = v-some (due-meets d.due) })

    pub above-two : Record t c (above_of h (above_of h v))
    above-two = above-record wh o (above_of h v) above-one
