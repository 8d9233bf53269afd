-- The law of firings elsewhere, for a rule that is due at a slot of a sound table. Assumes nothing.
use Prim.Native.Nat.{ℕ, ◌≤◌}
use mathlib.Core.Path.{◌≡◌}
use mathlib.Core.Bool.{Bool}
use mathlib.Core.List.{List}
use Rattle.scope.specs.Table.{word, link_at}
use Rattle.scope.specs.Tidy.{nodes_at, passes, fired_at, link_to}
use Rattle.spelling.specs.Whole.{Whole}
use Rattle.bridge.specs.Due.{Due}
use Rattle.tidy_holders.specs.Away.{Elsewhere}
use Rattle.tidy_holders.proofs.Noting.Acts.{AreSlots}
use Rattle.tidy_holders.proofs.Leaving.Untouched.{Lies}
use Rattle.tidy_holders.proofs.Leaving.Elsewhere.{elsewhere}
use Rattle.tidy_holders.proofs.Leaving.DueNodes.{linked, node-slots, nodes-lie, fired-is}

-- AWAY FROM A FIRING EVERY TEST IS AS BEFORE: at a slot that is none of its nodes and none of the two holders above
pub as_before : {t : List ℕ} {c : ℕ} (wh : Whole t c) {v n : ℕ} (d : Due t c v n)
    → (x : ℕ) → 1 ≤ x → x ≤ c → Elsewhere t (nodes_at t d.rule (link_to t c v) v) x
    → (limited : Bool) (m : ℕ) → passes limited (fired_at t c v n) c x m ≡ passes limited t c x m
as_before {t} {c} wh {v} d x p q a limited m =
    let r = d.rule in
    let l = link_to t c v in
    let k = linked wh d in
    let s : AreSlots (nodes_at t r l (word t (link_at l))) = rw k.1 (node-slots wh d) in
    let b : Lies c (nodes_at t r l (word t (link_at l))) = rw k.1 (nodes-lie wh d) in
    let f : Elsewhere t (nodes_at t r l (word t (link_at l))) x = rw k.1 a in
    rw (fired-is wh d) (rw k.1 at (elsewhere wh l k.0 (rw k.1 d.first) r s b x p q f limited m))
