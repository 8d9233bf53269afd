-- A double rotation on words is that on the tree that hangs at the link. Assumes nothing.
use Prim.Native.Nat.{ℕ, ◌+◌, ◌≤◌, max}
use mathlib.Core.Path.{◌≡◌, refl, sym, ◌∙◌, ap}
use mathlib.Core.List.{List, [], ◌∷◌}
use native.Mathlib.Omega.{arith}
use borrow.Author.Tests.{eq-eqb, ne_eqb}
use Rattle.scope.specs.Numbers.{other, most_height}
use Rattle.scope.specs.Table.{word, slot_at, son, link_at, written}
use Rattle.scope.specs.Tree.{Batch, Tree, times, same}
use Rattle.scope.specs.Sound.{Spells}
use Rattle.scope.specs.Rules.{seen, pair, localh, doubled_u, doubled_v, rotated_twice}
use Rattle.scope.specs.declared.rule.Pair.{Pair}
use Rattle.scope.specs.declared.side.Side.{Side}
use Rattle.scope.specs.declared.side.Link.{Link}
use Rattle.scope.specs.declared.outcome.Nodes.{Nodes}
use Rattle.spelling.proofs.Laws.{fit-son}
use Rattle.tree.specs.Rewrite.{mk, doubled}
use Rattle.tree.proofs.Firing.Sides.{times-mk}
use Rattle.scope.specs.Edits.{son_on, register_on, Edit, edit, writes}
use Rattle.scope.specs.Rules.{rotated_twice}
use Rattle.bridge.specs.Edit.{edited, shape}
use Rattle.bridge.specs.Below.{Hangs, ChangedBelow}
use Rattle.bridge.proofs.Links.Edited.{Rewritten, rewritten}
use Rattle.bridge.proofs.Links.Looks.{shape-self, near-son, far-son, near-register, far-register, fit-from, Looks, look, spell}
use Rattle.bridge.proofs.Links.Outside.{same-one, Away, StandsIn, InTree, in-inside, outside-slots, outside-root, stays}
use Rattle.bridge.proofs.Firing.Turns.{look-v, look-u, total, v-in, u-in, x-y, not-holder}
use Rattle.spelling.proofs.Fits.{link_on}

-- v over its near son u over its far son w, at link l
module _ {t : List ℕ} {c : ℕ} (l : Link) (s : Side) (dv du dw : Batch) (v u w : Pair) (m e f far : Tree)
    (h : Hangs t c l (mk s dv v (mk s du u m (mk s dw w e f)) far)) where
  abbrev n : Tree
  n = mk s dw w e f

  abbrev whole : Tree
  whole = mk s dv v (mk s du u m n) far

  abbrev x : ℕ
  x = word t (link_at l)

  abbrev y : ℕ
  y = son (slot_at t x) s

  abbrev z : ℕ
  z = son (slot_at t y) (other s)

  lv : Looks t c x s dv v (mk s du u m n) far
  lv = look-v l s dv du v u m n far h

  lu : Looks t c y s du u m n
  lu = look-u l s dv du v u m n far h

  pub look-w : Looks t c z s dw w e f
  look-w = look t c z dw w e f s lu.far_son

  sum : (k : ℕ) → times k whole ≡ same k x + ((same k y + (times k m + (same k z + (times k e + times k f)))) + times k far)
  sum k =
      total l s dv du v u m n far h k
      ∙ rw (times-mk s dw w e f k, ap (λ (d : Batch). d.slot) look-w.holds)

  in-v : StandsIn c whole x
  in-v = v-in l s dv du v u m n far h

  in-u : StandsIn c whole y
  in-u = u-in l s dv du v u m n far h

  pub w-in : StandsIn c whole z
  w-in = record {
    first = look-w.there;
    most = fit-son c (slot_at t y) (other s) lu.fit;
    once = omega (arith, sum z, same-one z z refl);
  }

  pub x-z : x ≡ z → ⊥
  x-z q = omega (arith, sum x, same-one x x refl, same-one x z q, h.once x)

  pub y-z : y ≡ z → ⊥
  y-z q = omega (arith, sum y, same-one y y refl, same-one y z q, h.once y)

  apart : (k : ℕ) → StandsIn c whole k → k ≡ l.holder → ⊥
  apart k i = not-holder l s dv du v u m n far h k i.once

  abbrev pub three_nodes : Nodes
  three_nodes = record { link = l; v = x; u = y; w = z; sv = slot_at t x; su = slot_at t y; sw = slot_at t z }

  -- all but the link's
  abbrev turns : List Edit
  turns =
      edit z (son_on s) y
      ∷ edit z (son_on (other s)) x
      ∷ edit y (son_on (other s)) (son (slot_at t z) s)
      ∷ edit x (son_on s) (son (slot_at t z) (other s))
      ∷ edit y (register_on (other s)) (seen s (slot_at t z)).near
      ∷ edit x (register_on s) (seen s (slot_at t z)).far
      ∷ edit z (register_on s) (localh (doubled_u (seen s (slot_at t y)) (seen s (slot_at t z))))
      ∷ edit z (register_on (other s)) (localh (doubled_v (seen s (slot_at t x)) (seen s (slot_at t z))))
      ∷ []

  twice_in : InTree c whole turns
  twice_in = (w-in, (w-in, (in-u, (in-v, (in-u, (in-v, (w-in, (w-in, tt))))))))

  module _ {t' : List ℕ} (r : Rewritten t t' c (rotated_twice s three_nodes))
      (low_u : localh (doubled_u u w) ≤ most_height) (low_v : localh (doubled_v v w) ≤ most_height) where
    slot-v : slot_at t' x
        ≡ shape s (slot_at t x) (son (slot_at t z) (other s)) (son (slot_at t x) (other s))
        (doubled_v (seen s (slot_at t x)) (seen s (slot_at t z)))
    unfolding edited
    slot-v =
        r.slots x lv.there ∙ ap (edited (rotated_twice s three_nodes) x) (sym (shape-self s (slot_at t x)))
        ∙ simp (
          ne_eqb x l.holder (apart x in-v),
          ne_eqb x y (x-y l s dv du v u m n far h),
          ne_eqb x z x-z,
          eq-eqb x x refl,
          near-son,
          near-register,
        )

    slot-u : slot_at t' y
        ≡ shape s (slot_at t y) (son (slot_at t y) s) (son (slot_at t z) s) (doubled_u (seen s (slot_at t y)) (seen s (slot_at t z)))
    unfolding edited
    slot-u =
        r.slots y lu.there ∙ ap (edited (rotated_twice s three_nodes) y) (sym (shape-self s (slot_at t y)))
        ∙ simp (
          ne_eqb y l.holder (apart y in-u),
          ne_eqb y x (λ q. x-y l s dv du v u m n far h (sym q)),
          ne_eqb y z y-z,
          eq-eqb y y refl,
          far-son,
          far-register,
        )

    slot-w : slot_at t' z
        ≡ shape s (slot_at t z) y x
        (pair (localh (doubled_u (seen s (slot_at t y)) (seen s (slot_at t z))))
        (localh (doubled_v (seen s (slot_at t x)) (seen s (slot_at t z)))))
    unfolding edited
    slot-w =
        r.slots z look-w.there ∙ ap (edited (rotated_twice s three_nodes) z) (sym (shape-self s (slot_at t z)))
        ∙ simp (
          ne_eqb z l.holder (apart z w-in),
          ne_eqb z x (λ q. x-z (sym q)),
          ne_eqb z y (λ q. y-z (sym q)),
          eq-eqb z z refl,
          near-son,
          far-son,
          near-register,
          far-register,
        )

    away : (k : ℕ) → 1 ≤ times k m + times k e + times k f + times k far → Away k (rotated_twice s three_nodes)
    away k i =
        let nx : k ≡ x → ⊥ = λ q. omega (arith, sum k, h.once k, same-one k x q) in
        let ny : k ≡ y → ⊥ = λ q. omega (arith, sum k, h.once k, same-one k y q) in
        let nz : k ≡ z → ⊥ = λ q. omega (arith, sum k, h.once k, same-one k z q) in
        let nh : k ≡ l.holder → ⊥ = not-holder l s dv du v u m n far h k (omega (arith, sum k)) in
        (nh, (nz, (nz, (ny, (nx, (ny, (nx, (nz, (nz, tt)))))))))

    twice-spells : Spells t' c z (doubled s dv du v u dw w m e f far)
    twice-spells =
        let fv = fit-from c (slot_at t x) lv.fit s in
        let fu = fit-from c (slot_at t y) lu.fit s in
        let fw = fit-from c (slot_at t z) look-w.fit s in
        let high_u = rw (lu.registers, look-w.registers) at low_u in
        let high_v = rw (lv.registers, look-w.registers) at low_v in
        rw (lv.registers, lu.registers, look-w.registers)
        (spell t' c z dw _ _ _ s (slot_at t z) y x look-w.there slot-w
        (fw.other_links y x _ (link_on c y _ lu.there in-u.most high_u) (link_on c x _ lv.there h.most high_v))
        look-w.holds
        (spell t' c y du _ m e s (slot_at t y) _ _ lu.there slot-u
        (fu.other_links _ _ _ fu.near fw.near) lu.holds
        (stays (rotated_twice s three_nodes) r _ m (λ k i. away k (omega arith)) lu.near_son)
        (stays (rotated_twice s three_nodes) r _ e (λ k i. away k (omega arith)) look-w.near_son))
        (spell t' c x dv _ f far s (slot_at t x) _ _ lv.there slot-v
        (fv.other_links _ _ _ fw.far fv.far) lv.holds
        (stays (rotated_twice s three_nodes) r _ f (λ k i. away k (omega arith)) look-w.far_son)
        (stays (rotated_twice s three_nodes) r _ far (λ k i. away k (omega arith)) lv.far_son)))

  pub twice-below : max (localh (doubled_u u w)) (localh (doubled_v v w)) ≤ most_height
      → ChangedBelow t (written t (writes (rotated_twice s three_nodes))) c l whole (doubled s dv du v u dw w m e f far)
  twice-below low =
      let r = rewritten h.sized (rotated_twice s three_nodes) (h.holder, in-inside c _ turns twice_in) in
      let low_u : localh (doubled_u u w) ≤ most_height = omega arith in
      let low_v : localh (doubled_v v w) ≤ most_height = omega arith in
      (record {
        sized = r.sized;
        top = z;
        first = look-w.there;
        most = w-in.most;
        spells = twice-spells r low_u low_v;
        slots = outside-slots _ l z turns twice_in r;
        root = outside-root _ l z turns twice_in r;
        head = r.head;
      })
