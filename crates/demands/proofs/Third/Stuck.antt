-- Demand 3: tidying cannot get stuck: where any guard holds on a sound table, some call of fire is accepted. Assumes nothing.
use Prim.Native.Nat.{ℕ, ◌≤◌}
use mathlib.Core.Path.{◌≡◌, refl}
use mathlib.Core.Option.{some}
use mathlib.Core.List.{List}
use native.Mathlib.Omega.{arith}
use Rattle.scope.specs.Numbers.{root_link, most_height}
use Rattle.scope.specs.Table.{word, root_word, link_at}
use Rattle.scope.specs.Tree.{Tree, true_height}
use Rattle.scope.specs.Sound.{tree_in}
use Rattle.scope.specs.declared.rule.Rule.{Rule}
use Rattle.scope.specs.declared.side.Side.{Side}
use Rattle.spelling.specs.Whole.{Whole}
use Rattle.tree.specs.Rewrite.{fire_at, within}
use Rattle.tree.proofs.Firing.Place.{placed}
use Rattle.tree.proofs.Rest.Height.{height-size}
use Rattle.tree.proofs.Rest.Quiet.{never_stuck}
use Rattle.bridge.specs.Leads.{side_number, link_along}
use Rattle.bridge.proofs.Firing.Along.{hangs-along}
use Rattle.bridge.proofs.Firing.Fires.{hangs-root}
use Rattle.bridge.proofs.Links.Held.{root-only}
use Rattle.bridge.proofs.Resting.Quiets.{relaxed, rule-numbered}
use Rattle.demands.specs.Fires.{Trial, Accepted}
use Rattle.demands.specs.Firing.{NamedPlace}
use Rattle.demands.proofs.Open.{own_tree, tree-small}
use Rattle.demands.proofs.Second.Due.{link-known}
use Rattle.demands.proofs.Second.Exact.{fire-exact}

-- NEVER STUCK: where a guard holds anywhere in the tree, fire accepts some numbers
pub some-accepted : {t : List ℕ} {c : ℕ} → Whole t c → (way : List Side) (r : Rule) (T' : Tree)
    → fire_at way r (tree_in t c) ≡ some T' → (x : Trial) × Accepted t x
unfolding link_at
some-accepted {t} {c} w way r T' e =
    let v = own_tree w in
    let T = tree_in t c in
    let low : true_height T ≤ most_height = omega (arith, height-size T, tree-small v, w.sized.most) in
    let a = never_stuck T (relaxed t c (word t root_word) T v.sound.reached) low way r T' e in
    let p = placed (within most_height) a.rule a.way T a.tree a.is in
    let l = link_along t a.way root_link in
    let h = hangs-along a.way root_link T p.from (hangs-root v) p.there in
    let known = link-known c l h.holder (root-only t c a.way T p.from v.sound.reached p.there) in
    let n = rule-numbered a.rule in
    let x : Trial = record { rule = n.number; holder = l.holder; side = side_number l.side } in
    let place : NamedPlace t c x = record {
      named = record { rule = a.rule; link = l; is_rule = n.is; is_link = known };
      leads = record { way = a.way; tree = p.from; there = p.there; ends = refl };
    } in
    (x, (fire-exact w x).accepts.whenever (record { at = place; tree = a.tree; is = a.is }))
