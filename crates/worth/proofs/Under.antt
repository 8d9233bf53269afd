-- The weight at a slot from those of its two sides, and of the whole table. Assumes nothing.
use Prim.Native.Nat.{ℕ, ◌+◌, ◌-◌, ◌≤◌, ◌<◌}
use mathlib.Core.Path.{◌≡◌, refl, sym, ap, ◌∙◌}
use mathlib.Core.List.{List}
use native.Mathlib.Omega.{arith}
use Rattle.scope.specs.Table.{word, root_word, count_word}
use Rattle.scope.specs.Tree.{Tree, leaf, size, over}
use Rattle.scope.specs.Sound.{batch_at, tree_in}
use Rattle.scope.specs.Worth.{worth_of}
use Rattle.spelling.specs.Whole.{Whole}
use Rattle.spelling.proofs.Spell.{tree-in}
use Rattle.fork.specs.declared.Fork.{Fork}
use Rattle.fork.specs.Hangs.{Forked, Says, tree_at}
use Rattle.fork.proofs.Down.{says-fork, said}
use Rattle.worth.specs.declared.Load.{Load}
use Rattle.worth.specs.Weight.{weight_of, own_weight, load_of, top_of, Light, Bearable}
use Rattle.worth.specs.Bearing.{registers}
use Rattle.worth.proofs.Weight.{weight-leaf, weight-node, weight-most, weight-worth}

-- nothing weighs nothing
pub load-leaf : (n above : ℕ) → record { weight = 0; slots = 0 } ≡ load_of n above leaf
unfolding load_of size
load-leaf n above = ap (λ (w : ℕ). record { weight = w; slots = 0 }) (sym (weight-leaf n above))

module _ {t : List ℕ} {more x : ℕ} {f : Fork} (d : Forked t more x f) where
  -- the root's registers show this height
  pub top-here : {r : ℕ} → r ≡ over f.slot.lefth f.slot.righth → Says t x top_of r × (r ≤ 65536)
  unfolding top_of
  top-here e = (says-fork top_of d e, omega (arith, registers d))

  module _ {n above : ℕ} (w : Bearable more n above) where
    module _ {a b : Load} (ea : a ≡ load_of n f.slot.lefth d.on_left.tree) (eb : b ≡ load_of n f.slot.righth d.on_right.tree) where
      on-left : (a.weight ≡ weight_of n f.slot.lefth d.on_left.tree) × (a.slots ≡ size d.on_left.tree)
      unfolding load_of
      on-left = (ap (λ (l : Load). l.weight) ea, ap (λ (l : Load). l.slots) ea)

      on-right : (b.weight ≡ weight_of n f.slot.righth d.on_right.tree) × (b.slots ≡ size d.on_right.tree)
      unfolding load_of
      on-right = (ap (λ (l : Load). l.weight) eb, ap (λ (l : Load). l.slots) eb)

      -- fewer slots hang below than there are in all
      pub few-below : a.slots + b.slots < n
      few-below = omega (arith, d.few, w.few, on-left, on-right)

      pub weights-few : a.weight + b.weight ≤ 10000000000000
      weights-few =
          let l = d.on_left in
          let r = d.on_right in
          omega (
            arith,
            few-below,
            w.most,
            on-left,
            on-right,
            weight-most t l.slots f.left n f.slot.lefth l.tree l.reached w.most (omega (arith, registers d)),
            weight-most t r.slots f.right n f.slot.righth r.tree r.reached w.most (omega (arith, registers d)),
          )

      pub light : Light f.slot (n - (a.slots + b.slots + 1)) above
      light = record { left = (registers d).0; right = (registers d).1; outside = omega (arith, w.most); over_it = w.over_it }

      pub load-here : {own : ℕ} → own ≡ own_weight f.slot.lefth f.slot.righth (n - (a.slots + b.slots + 1)) above
          → record { weight = a.weight + b.weight + own; slots = a.slots + b.slots + 1 } ≡ load_of n above (tree_at d)
      unfolding load_of size
      load-here {own} e =
          let T : Tree = tree_at d in
          let slots : a.slots + b.slots + 1 ≡ size T = omega (arith, on-left, on-right) in
          let is = rw slots at e in
          let weight : a.weight + b.weight + own ≡ weight_of n above T =
          omega (arith, is, on-left, on-right, weight-node n above (batch_at t x) f.slot.lefth f.slot.righth d.on_left.tree d.on_right.tree) in
          rw (slots, weight) refl

-- the whole table
module _ {t : List ℕ} {c x : ℕ} (w : Whole t c) (ex : x ≡ word t root_word) where
  pub worth-whole : {n g : ℕ} {all : Load} → n ≡ word t count_word → Says t x top_of g
      → all ≡ load_of n g (tree_in t c) → all.weight ≡ worth_of (tree_in t c)
  unfolding load_of
  worth-whole {n} {g} ec sg e =
      let T : Tree = tree_in t c in
      let eg : g ≡ top_of T = said w ex top_of sg in
      let en : n ≡ size T = cc (ec, w.sound.count, ap size (tree-in t c w.sound)) in
      let is : weight_of n g T ≡ worth_of T = cc (eg, en, weight-worth T) in
      ap (λ (l : Load). l.weight) e ∙ is
