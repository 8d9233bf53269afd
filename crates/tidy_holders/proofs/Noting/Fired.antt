-- A due rule fired on a sound table: sound again, and every slot noted where it hangs. Assumes nothing.
use Prim.Native.Nat.{ℕ, ◌≤◌}
use mathlib.Core.Path.{◌≡◌, refl}
use mathlib.Core.Bool.{true}
use mathlib.Core.Option.{Option, none, some}
use mathlib.Core.List.{List, []}
use lib.ListN.{length}
use Rattle.scope.specs.Table.{word, link_at, written}
use Rattle.scope.specs.Tree.{Tree}
use Rattle.scope.specs.Rules.{action_at}
use Rattle.scope.specs.Tidy.{nodes_at, due_at, link_to}
use Rattle.scope.specs.declared.side.Side.{Side}
use Rattle.scope.specs.declared.side.Link.{Link}
use Rattle.scope.specs.declared.rule.Kind.{Kind}
use Rattle.scope.specs.declared.rule.Kind.TheVariants.{Propagate, Lean, Even, Double}
use Rattle.scope.specs.declared.rule.Rule.{Rule}
use Rattle.scope.specs.declared.outcome.Nodes.{Nodes}
use Rattle.spelling.specs.Whole.{Whole}
use Rattle.tree.specs.Rewrite.{rule_on, accept_at}
use Rattle.scope.specs.Edits.{writes}
use Rattle.scope.specs.Rules.{propagated}
use Rattle.bridge.specs.Alike.{Alike}
use Rattle.bridge.specs.Fired.{Fired}
use Rattle.bridge.proofs.Firing.Calls.{LinkIn}
use Rattle.bridge.proofs.Firing.Fires.{same_way}
use Rattle.bridge.proofs.Links.Held.{way-to}
use Rattle.bridge.proofs.Resting.Linked.{link-to}
use Rattle.bridge.proofs.Resting.Meets.{due-meets, v-some, due-fires}
use Rattle.tidy_holders.specs.Holds.{AllNoted, noted}
use Rattle.scope.specs.Rules.{action}
use Rattle.tidy_holders.proofs.Noting.Acts.{AreSlots, action-edits}
use Rattle.tidy_holders.proofs.Noting.Swaps.{after_moves, told}
use Rattle.tidy_holders.proofs.Noting.Places.{held_part, held_by, note_part, note_by}
use Rattle.tidy_holders.proofs.Noting.Turned.{by-moves, v-within, turned-holds, twice_holds}
use Rattle.std.specs.Prelude.{Ok}

module _ {t : List ℕ} {c : ℕ} (wh : Whole t c) (l : Link) (i : LinkIn c l) {h : List ℕ} (room : length h ≡ 4096)
    (o : AllNoted t c h) where
  abbrev at : Rule → Nodes
  at r = nodes_at t r l (word t (link_at l))

  edited-holds : (k : Kind) (s : Side) → AreSlots (at (rule_on k s))
      → AllNoted (written t (writes (action k s (at (rule_on k s))))) c (noted (action k s (at (rule_on k s))) h)
  unfolding held_by held_part note_by note_part after_moves told
  edited-holds Propagate s j =
      by-moves wh.sized room o (propagated s (at (rule_on Propagate s))) []
      ((j.v, v-within wh l i s j.v j.u), tt) (tt, tt) tt (λ q n. tt) (λ q. refl) (λ k. refl)
  edited-holds Lean s j = turned-holds wh l i s j.v j.u room o (at (rule_on Lean s)).w (at (rule_on Lean s)).sw
  edited-holds Even s j = turned-holds wh l i s j.v j.u room o (at (rule_on Even s)).w (at (rule_on Even s)).sw
  edited-holds Double s j = twice_holds wh l i s j.v j.u room o j.w

  pub fired-holds : (r : Rule) → AreSlots (at r)
      → AllNoted (written t (action_at r (at r))) c (noted (action r.kind r.side (at r)) h)
  fired-holds r j = rw (action-edits r (at r)) (edited-holds r.kind r.side j)

-- what comes out on the tree too leaves the table sound
whole-after : (t : List ℕ) (c : ℕ) (T : Tree) (r : Rule) (n : Nodes) (g a : Option Tree)
    → Alike t (λ T' t'. Fired t t' c T T') g a (Ok (r, n)) → Whole (written t (action_at r n)) c
whole-after t c T r n g none a = absurd a
whole-after t c T r n g (some T') a = a.whole

-- A DUE RULE LEAVES A SOUND TABLE SOUND
pub fired-whole : {t : List ℕ} {c : ℕ} → Whole t c → (r : Rule) (v : ℕ) → 1 ≤ v → v ≤ c → due_at t c r v ≡ true
    → Whole (written t (action_at r (nodes_at t r (link_to t c v) v))) c
fired-whole {t} {c} w r v i j e =
    let k = link-to w v i j (v-some (due-meets e)) in
    let p = way-to w (link_to t c v) k.0 (rw k.1 i) in
    whole-after t c w.sound.tree r _ _ (accept_at p.way r w.sound.tree)
    (rw (due-fires w r v i j e) at (same_way w r (link_to t c v) p))
