-- A firing changes no test but those at its nodes and at the two holders above them. Assumes nothing.
use Prim.Native.Nat.{ℕ, ◌/◌, ◌≤◌}
use mathlib.Core.Path.{◌≡◌, sym, ◌∙◌, ap}
use mathlib.Core.Bool.{Bool}
use mathlib.Core.List.{List}
use native.Mathlib.Omega.{arith}
use Rattle.scope.proofs.Bools.{by_bool}
use Rattle.scope.specs.Numbers.{other}
use Rattle.scope.specs.Table.{word, slot_at, son, link_at, written}
use Rattle.scope.specs.Rules.{action_at}
use Rattle.scope.specs.Fire.{has_third}
use Rattle.scope.specs.Tidy.{nodes_at, passes}
use Rattle.scope.specs.declared.side.Side.{Side}
use Rattle.scope.specs.declared.side.Link.{Link}
use Rattle.scope.specs.declared.rule.Rule.{Rule}
use Rattle.scope.specs.declared.outcome.Nodes.{Nodes}
use Rattle.spelling.specs.Whole.{Whole}
use Rattle.spelling.proofs.Laws.{link-son}
use Rattle.bridge.proofs.Firing.Calls.{LinkIn}
use Rattle.tidy_holders.specs.Codes.{link_for, link_number}
use Rattle.tidy_holders.specs.Away.{NoNode, Elsewhere}
use Rattle.tidy_holders.proofs.Noting.Links.{side-most, code_in, son-in, held_link}
use Rattle.tidy_holders.proofs.Noting.Links.{held-son, held-most, one_code}
use Rattle.tidy_holders.proofs.Noting.Acts.{AreSlots}
use Rattle.tidy_holders.proofs.Leaving.Steady.{Agree, same-passes}
use Rattle.tidy_holders.proofs.Leaving.Untouched.{Lies, untouched, registers-stay}

-- a link's number tells its holder
pub half : (k : ℕ) (s : Side) → link_number (link_for k s) / 2 ≡ k
unfolding link_number
half k s = omega (arith, side-most s)

module _ {t : List ℕ} {c : ℕ} (wh : Whole t c) where
  -- what hangs at a link hangs at no other holder
  one-holder : (x : ℕ) (s : Side) → 1 ≤ x → x ≤ c → (l : Link) → LinkIn c l → 1 ≤ son (slot_at t x) s
      → son (slot_at t x) s ≡ word t (link_at l)
      → x ≡ l.holder
  one-holder x s i j l k p e =
      let a = held-son t x s i in
      let b = a ∙ e ∙ sym (held_link t l) in
      let q = one_code wh (link_number (link_for x s)) (link_number l) (son-in x s i j) (code_in l k) b (rw a p) in
      sym (half x s) ∙ ap (λ (y : ℕ). y / 2) q ∙ half l.holder l.side

  -- no son of two slots
  one-son : (x y : ℕ) (s o : Side) → 1 ≤ x → x ≤ c → 1 ≤ y → y ≤ c → 1 ≤ son (slot_at t x) s
      → son (slot_at t x) s ≡ son (slot_at t y) o
      → x ≡ y
  one-son x y s o i j k q p e =
      one-holder x s i j (link_for y o) (record { most = q; root = λ z. absurd (omega arith) }) p
      (e ∙ sym (link-son t (link_for y o) k))

  module _ (l : Link) (i : LinkIn c l) (p : 1 ≤ word t (link_at l)) (r : Rule)
      (nd : AreSlots (nodes_at t r l (word t (link_at l)))) (li : Lies c (nodes_at t r l (word t (link_at l)))) where
    abbrev n : Nodes
    n = nodes_at t r l (word t (link_at l))

    -- w is no son of a slot that is none of the nodes
    not-over-w : (y : ℕ) (s : Side) → 1 ≤ y → y ≤ c → NoNode n y → 1 ≤ son (slot_at t y) s → son (slot_at t y) s ≡ n.w
        → ⊥
    not-over-w y s j k a q e =
        by_bool (has_third r.kind)
        (λ b. let f : son (slot_at t y) s ≡ son (slot_at t n.u) (other r.side) = rw b at e in
        a.u (one-son y n.u s (other r.side) j k nd.u li.u q f))
        (λ b. let f : son (slot_at t y) s ≡ son (slot_at t n.v) r.side = rw b at e in
        a.v (one-son y n.v s r.side j k p li.v q f))

    -- no son of a slot that is none of the nodes and does not hold their link is a node
    no-son : (y : ℕ) (s : Side) → 1 ≤ y → y ≤ c → NoNode n y → (y ≡ l.holder → ⊥) → 1 ≤ son (slot_at t y) s
        → NoNode n (son (slot_at t y) s)
    no-son y s j k a b q = record {
      v = λ e. b (one-holder y s j k l i q e);
      u = λ e. a.v (one-son y n.v s r.side j k p li.v q e);
      w = not-over-w y s j k a q;
    }

    module _ (x : ℕ) (j : 1 ≤ x) (k : x ≤ c) (a : Elsewhere t n x) where
      here : (y : ℕ) → 1 ≤ y → NoNode n y → (y ≡ l.holder → ⊥) → slot_at (written t (action_at r n)) y ≡ slot_at t y
      here y q b g = untouched wh.sized r n nd li y q b g

      -- the sons of x
      son-node : (s : Side) → 1 ≤ son (slot_at t x) s → NoNode n (son (slot_at t x) s)
      son-node s q = no-son x s j k a.node a.above q

      son-holder : (s : Side) → 1 ≤ son (slot_at t x) s → son (slot_at t x) s ≡ l.holder → ⊥
      son-holder s q e = a.upper s (omega arith) e

      son-most : (s : Side) → son (slot_at t x) s ≤ c
      son-most s = rw (← held-son t x s j) (held-most wh _ (son-in x s j k))

      agree : Agree t (written t (action_at r n)) x
      agree = record {
        slot = here x j a.node a.above;
        sons = λ s q. here _ q (son-node s q) (son-holder s q);
        grandsons = λ s s' o q q'.
            let y = son (slot_at t x) s in
            let b = no-son y s' q (son-most s) (son-node s q) (son-holder s q) q' in
            registers-stay wh.sized r n nd li (son (slot_at t y) s') q' b o;
      }

      pub elsewhere : (limited : Bool) (m : ℕ)
          → passes limited (written t (action_at r n)) c x m ≡ passes limited t c x m
      elsewhere limited m = same-passes agree c limited m
