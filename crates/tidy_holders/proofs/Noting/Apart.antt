-- On a sound table the nodes of a rule and the holder of their link are different slots. Assumes nothing.
use Prim.Native.Nat.{ℕ, ◌≤◌}
use mathlib.Core.Path.{◌≡◌}
use mathlib.Core.List.{List}
use native.Mathlib.Omega.{arith}
use Rattle.scope.specs.Numbers.{other, root_link}
use Rattle.scope.specs.Table.{word, slot_at, son, link_at}
use Rattle.scope.specs.Tree.{Tree, leaf}
use Rattle.scope.specs.Sound.{Spells}
use Rattle.scope.specs.declared.side.Side.{Side}
use Rattle.scope.specs.declared.side.Link.{Link}
use Rattle.spelling.specs.Whole.{Whole}
use Rattle.tree.specs.Rewrite.{mk}
use Rattle.tree.proofs.Firing.Steps.{by_side}
use Rattle.bridge.specs.Below.{Hangs}
use Rattle.bridge.proofs.Links.Looks.{look}
use Rattle.bridge.proofs.Firing.Turns.{look-u, x-y, x-once, y-once, not-holder}
use Rattle.bridge.proofs.Firing.Twice.{w-in, x-z, y-z}
use Rattle.bridge.proofs.Firing.Along.{hangs-along}
use Rattle.bridge.proofs.Firing.Fires.{hangs-root}
use Rattle.bridge.proofs.Firing.Calls.{LinkIn}
use Rattle.bridge.proofs.Links.Held.{way-to}

-- v, u and the holder g are different slots; and w is another
pub record Two (v u g : ℕ) : Type 0 where
  pub v_u : v ≡ u → ⊥
  pub v_g : v ≡ g → ⊥
  pub u_g : u ≡ g → ⊥

pub record Three (v u w g : ℕ) : Type 0 where
  pub v_w : v ≡ w → ⊥
  pub u_w : u ≡ w → ⊥
  pub w_g : w ≡ g → ⊥

module _ {t : List ℕ} {c : ℕ} (wh : Whole t c) (l : Link) (i : LinkIn c l) (h : 1 ≤ word t (link_at l)) (s : Side) where
  abbrev x : ℕ
  x = word t (link_at l)

  abbrev y : ℕ
  y = son (slot_at t x) s

  abbrev z : ℕ
  z = son (slot_at t y) (other s)

  some-tree : (S : Tree) × Hangs t c l S
  some-tree =
      let p = way-to wh l i h in
      (p.tree, rw p.ends at (hangs-along p.way root_link wh.sound.tree p.tree (hangs-root wh) p.there))

  pub two-apart : 1 ≤ y → Two x y l.holder
  unfolding Spells
  two-apart j =
      by_side s (λ S. Hangs t c l S → Two x y l.holder) some-tree.0
      (λ k. absurd (omega (arith, k.spells)))
      (λ dv v near far. by_side s (λ N. Hangs t c l (mk s dv v N far) → Two x y l.holder) near
      (λ k. absurd (omega (arith, (look t c x dv v leaf far s k.spells).near_son)))
      (λ du u m n k. record {
        v_u = x-y l s dv du v u m n far k;
        v_g = not-holder l s dv du v u m n far k x (x-once l s dv du v u m n far k);
        u_g = not-holder l s dv du v u m n far k y (y-once l s dv du v u m n far k);
      }))
      some-tree.1

  pub three-apart : 1 ≤ y → 1 ≤ z → Three x y z l.holder
  unfolding Spells
  three-apart j o =
      by_side s (λ S. Hangs t c l S → Three x y z l.holder) some-tree.0
      (λ k. absurd (omega (arith, k.spells)))
      (λ dv v near far. by_side s (λ N. Hangs t c l (mk s dv v N far) → Three x y z l.holder) near
      (λ k. absurd (omega (arith, (look t c x dv v leaf far s k.spells).near_son)))
      (λ du u m n. by_side s (λ N. Hangs t c l (mk s dv v (mk s du u m N) far) → Three x y z l.holder) n
      (λ k. absurd (omega (arith, (look-u l s dv du v u m leaf far k).far_son)))
      (λ dw w e f k. record {
        v_w = x-z l s dv du dw v u w m e f far k;
        u_w = y-z l s dv du dw v u w m e f far k;
        w_g = not-holder l s dv du v u m (mk s dw w e f) far k z (w-in l s dv du dw v u w m e f far k).once;
      })))
      some-tree.1
