-- A propagation and a rotation on words are those on the tree that hangs at the link. Assumes nothing.
use Prim.Native.Nat.{ℕ, ◌+◌, ◌≤◌}
use mathlib.Core.Path.{◌≡◌, refl, sym, ◌∙◌, ap}
use mathlib.Core.List.{List, [], ◌∷◌}
use native.Mathlib.Omega.{arith}
use borrow.Author.Tests.{eq-eqb, ne_eqb}
use Rattle.scope.specs.Numbers.{other, most_height}
use Rattle.scope.specs.Table.{word, slot_at, son, link_at, written}
use Rattle.scope.specs.Tree.{Batch, Tree, times, same}
use Rattle.scope.specs.Sound.{Spells}
use Rattle.scope.specs.Rules.{seen, pair, localh, turned_v, propagated, rotated}
use Rattle.scope.specs.declared.rule.Pair.{Pair}
use Rattle.scope.specs.declared.side.Side.{Side}
use Rattle.scope.specs.declared.side.Link.{Link}
use Rattle.scope.specs.declared.slot.Slot.{Slot}
use Rattle.scope.specs.declared.outcome.Nodes.{Nodes}
use Rattle.spelling.proofs.Laws.{fit-son}
use Rattle.spelling.proofs.Fits.{link_on}
use Rattle.tree.specs.Rewrite.{mk, propagated_tree, rotated_tree}
use Rattle.tree.proofs.Firing.Sides.{times-mk}
use Rattle.scope.specs.Edits.{son_on, register_on, Edit, edit, writes}
use Rattle.bridge.specs.Edit.{edited, shape}
use Rattle.bridge.specs.Below.{Hangs, ChangedBelow}
use Rattle.bridge.proofs.Links.Edited.{Rewritten, rewritten}
use Rattle.bridge.proofs.Links.Looks.{shape-self, near-son, far-son, near-register, far-register, fit-from, Looks, look, spell}
use Rattle.bridge.proofs.Links.Outside.{same-one, Away, StandsIn, InTree, in-inside, steady, steady-root, stays}
use Rattle.bridge.proofs.Links.Outside.{outside-slots, outside-root, left-slots, left-root}

-- v over its near son u, at link l
module _ {t : List ℕ} {c : ℕ} (l : Link) (s : Side) (dv du : Batch) (v u : Pair) (m n far : Tree)
    (h : Hangs t c l (mk s dv v (mk s du u m n) far)) where
  abbrev x : ℕ
  x = word t (link_at l)

  abbrev y : ℕ
  y = son (slot_at t x) s

  pub look-v : Looks t c x s dv v (mk s du u m n) far
  look-v = look t c x dv v (mk s du u m n) far s h.spells

  pub look-u : Looks t c y s du u m n
  look-u = look t c y du u m n s look-v.near_son

  pub y-most : y ≤ c
  y-most = fit-son c (slot_at t x) s look-v.fit

  -- how often a slot stands in the tree
  pub total : (k : ℕ) → times k (mk s dv v (mk s du u m n) far)
      ≡ same k x + ((same k y + (times k m + times k n)) + times k far)
  total k =
      times-mk s dv v (mk s du u m n) far k
      ∙ rw (times-mk s du u m n k, ap (λ (d : Batch). d.slot) look-v.holds, ap (λ (d : Batch). d.slot) look-u.holds)

  pub x-once : 1 ≤ times x (mk s dv v (mk s du u m n) far)
  x-once = omega (arith, total x, same-one x x refl)

  pub y-once : 1 ≤ times y (mk s dv v (mk s du u m n) far)
  y-once = omega (arith, total y, same-one y y refl)

  pub v-in : StandsIn c (mk s dv v (mk s du u m n) far) x
  v-in = record { first = look-v.there; most = h.most; once = x-once }

  pub u-in : StandsIn c (mk s dv v (mk s du u m n) far) y
  u-in = record { first = look-u.there; most = y-most; once = y-once }

  pub x-y : x ≡ y → ⊥
  x-y q = omega (arith, total x, same-one x x refl, same-one x y q, h.once x)

  pub not-holder : (k : ℕ) → 1 ≤ times k (mk s dv v (mk s du u m n) far) → k ≡ l.holder → ⊥
  not-holder k i q = omega (arith, ap (λ (j : ℕ). times j (mk s dv v (mk s du u m n) far)) q, h.apart)

  -- the nodes of a rule at the link; w does not matter
  module _ (w : ℕ) (sw : Slot) where
    abbrev pub two_nodes : Nodes
    two_nodes = record { link = l; v = x; u = y; w = w; sv = slot_at t x; su = slot_at t y; sw = sw }

    propagate-in : InTree c (mk s dv v (mk s du u m n) far) (propagated s two_nodes)
    propagate-in = (v-in, tt)

    module _ {t' : List ℕ} (r : Rewritten t t' c (propagated s two_nodes)) (low : localh u ≤ most_height) where
      slot-v : slot_at t' x ≡ shape s (slot_at t x) y (son (slot_at t x) (other s))
          (pair (localh (seen s (slot_at t y))) (seen s (slot_at t x)).far)
      unfolding edited
      slot-v =
          r.slots x look-v.there ∙ ap (edited (propagated s two_nodes) x) (sym (shape-self s (slot_at t x)))
          ∙ simp (eq-eqb x x refl, near-register)

      propagate-away : (k : ℕ) → 1 ≤ same k y + (times k m + times k n) + times k far → Away k (propagated s two_nodes)
      propagate-away k i = (λ q. omega (arith, total k, h.once k, same-one k x q), tt)

      propagate-spells : Spells t' c x (propagated_tree s dv du v u m n far)
      propagate-spells =
          let fv = fit-from c (slot_at t x) look-v.fit s in
          rw look-v.registers
          (spell t' c x dv (pair (localh u) (seen s (slot_at t x)).far) (mk s du u m n) far s (slot_at t x) y
          (son (slot_at t x) (other s)) look-v.there (rw look-u.registers slot-v)
          (fv.other_links y (son (slot_at t x) (other s)) (pair (localh u) (seen s (slot_at t x)).far)
          (link_on c y (localh u) look-u.there y-most low) fv.far)
          look-v.holds
          (stays (propagated s two_nodes) r y (mk s du u m n)
          (λ k i. propagate-away k (omega (
            arith,
            times-mk s du u m n k,
            ap (λ (d : Batch). same k d.slot)
                look-u.holds,
          ))) look-v.near_son)
          (stays (propagated s two_nodes) r (son (slot_at t x) (other s)) far (λ k i. propagate-away k (omega arith))
          look-v.far_son))

    pub propagate-below : localh u ≤ most_height
        → ChangedBelow t (written t (writes (propagated s two_nodes))) c l (mk s dv v (mk s du u m n) far)
        (propagated_tree s dv du v u m n far)
    propagate-below low =
        let r = rewritten h.sized (propagated s two_nodes) (in-inside c _ (propagated s two_nodes) propagate-in) in
        (record {
          sized = r.sized;
          top = x;
          first = look-v.there;
          most = h.most;
          spells = propagate-spells r low;
          slots = λ k i z. left-slots _ (propagated s two_nodes) propagate-in r k i z ∙ steady t l k i;
          root = left-root _ (propagated s two_nodes) propagate-in r ∙ steady-root t l;
          head = r.head;
        })

    -- u takes v's place
    abbrev turns : List Edit
    turns =
        edit y (son_on (other s)) x
        ∷ edit x (son_on s) (son (slot_at t y) (other s))
        ∷ edit x (register_on s) (seen s (slot_at t y)).far
        ∷ edit y (register_on (other s)) (localh (turned_v (seen s (slot_at t x)) (seen s (slot_at t y))))
        ∷ []

    rotate-in : InTree c (mk s dv v (mk s du u m n) far) turns
    rotate-in = (u-in, (v-in, (v-in, (u-in, tt))))

    module _ {t' : List ℕ} (r : Rewritten t t' c (rotated s two_nodes)) (low : localh (turned_v v u) ≤ most_height) where
      rotated-v : slot_at t' x
          ≡ shape s (slot_at t x) (son (slot_at t y) (other s)) (son (slot_at t x) (other s))
          (turned_v (seen s (slot_at t x)) (seen s (slot_at t y)))
      unfolding edited
      rotated-v =
          r.slots x look-v.there ∙ ap (edited (rotated s two_nodes) x) (sym (shape-self s (slot_at t x)))
          ∙ simp (ne_eqb x l.holder (not-holder x x-once), ne_eqb x y x-y, eq-eqb x x refl, near-son, near-register)

      rotated-u : slot_at t' y
          ≡ shape s (slot_at t y) (son (slot_at t y) s) x
          (pair (seen s (slot_at t y)).near (localh (turned_v (seen s (slot_at t x)) (seen s (slot_at t y)))))
      unfolding edited
      rotated-u =
          r.slots y look-u.there ∙ ap (edited (rotated s two_nodes) y) (sym (shape-self s (slot_at t y)))
          ∙ simp (ne_eqb y l.holder (not-holder y y-once), ne_eqb y x (λ q. x-y (sym q)), eq-eqb y y refl, far-son, far-register)

      rotate-away : (k : ℕ) → 1 ≤ times k m + times k n + times k far → Away k (rotated s two_nodes)
      rotate-away k i =
          let nx : k ≡ x → ⊥ = λ q. omega (arith, total k, h.once k, same-one k x q) in
          let ny : k ≡ y → ⊥ = λ q. omega (arith, total k, h.once k, same-one k y q) in
          (not-holder k (omega (arith, total k)), (ny, (nx, (nx, (ny, tt)))))

      rotate-spells : Spells t' c y (rotated_tree s dv du v u m n far)
      rotate-spells =
          let fv = fit-from c (slot_at t x) look-v.fit s in
          let fu = fit-from c (slot_at t y) look-u.fit s in
          let high = rw (look-v.registers, look-u.registers) at low in
          rw (look-v.registers, look-u.registers)
          (spell t' c y du _ m _ s (slot_at t y) (son (slot_at t y) s) x look-u.there rotated-u
          (fu.other_links _ x _ fu.near (link_on c x _ look-v.there h.most high))
          look-u.holds
          (stays (rotated s two_nodes) r _ m (λ k i. rotate-away k (omega arith)) look-u.near_son)
          (spell t' c x dv _ n far s (slot_at t x) _ _ look-v.there rotated-v
          (fv.other_links _ _ _ fu.far fv.far)
          look-v.holds
          (stays (rotated s two_nodes) r _ n (λ k i. rotate-away k (omega arith)) look-u.far_son)
          (stays (rotated s two_nodes) r _ far (λ k i. rotate-away k (omega arith)) look-v.far_son)))

    pub rotate-below : localh (turned_v v u) ≤ most_height
        → ChangedBelow t (written t (writes (rotated s two_nodes))) c l (mk s dv v (mk s du u m n) far)
        (rotated_tree s dv du v u m n far)
    rotate-below low =
        let r = rewritten h.sized (rotated s two_nodes) (h.holder, in-inside c _ turns rotate-in) in
        (record {
          sized = r.sized;
          top = y;
          first = look-u.there;
          most = y-most;
          spells = rotate-spells r low;
          slots = outside-slots _ l y turns rotate-in r;
          root = outside-root _ l y turns rotate-in r;
          head = r.head;
        })
