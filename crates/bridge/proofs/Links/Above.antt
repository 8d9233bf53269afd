-- A change below the link of a son is one below the link of its node. Assumes nothing.
use Prim.Native.Nat.{ℕ, ◌+◌, ◌≤◌, ◌<◌}
use mathlib.Core.Path.{◌≡◌, refl, sym, ◌∙◌, ap}
use mathlib.Core.Bool.{true, false}
use mathlib.Core.List.{List}
use native.Mathlib.Omega.{arith}
use lib.Dec.{eqb, leb}
use borrow.Author.Tests.{eq-eqb, ne_eqb, leb-true, le-leb}
use Rattle.scope.proofs.Bools.{and_l, and_r}
use Rattle.scope.specs.Numbers.{other, most_height}
use Rattle.scope.specs.Table.{head_words, word, root_word, slot_at, son, link_at}
use Rattle.scope.specs.Fit.{link_ok, fit_slot}
use Rattle.scope.specs.Tree.{Batch, Tree, leaf, node, times, same}
use Rattle.scope.specs.Sound.{Spells}
use Rattle.scope.specs.Rules.{seen, pair}
use Rattle.scope.specs.declared.rule.Pair.{Pair}
use Rattle.scope.specs.declared.side.Side.{Side}
use Rattle.scope.specs.declared.side.Link.{Link}
use Rattle.spelling.specs.Ready.{Sized}
use Rattle.spelling.proofs.Laws.{fit-son, link-son}
use Rattle.spelling.proofs.Frame.{frame}
use Rattle.tree.specs.Rewrite.{mk}
use Rattle.tree.proofs.Firing.Sides.{times-mk}
use Rattle.scope.specs.Edits.{son_on, register_on}
use Rattle.bridge.specs.Edit.{with_part, shape}
use Rattle.bridge.specs.Below.{Hangs, ChangedBelow, Cut}
use Rattle.tree.specs.Seek.{beside}
use Rattle.bridge.proofs.Links.Looks.{shape-self, near-son, near-register, fit-from, Looks, look, spell}
use Rattle.bridge.proofs.Links.Outside.{same-one, first_slot, steady, steady-root}
use Rattle.spelling.proofs.Fits.{link_on}

low-register : (c x h : ℕ) → link_ok c x h ≡ true → h ≤ most_height
unfolding link_ok
low-register c x h e = leb-true _ _ (and_r (leb x c) _ (and_l _ _ e))

no-link : (c : ℕ) → link_ok c 0 0 ≡ true
unfolding link_ok
no-link c = rw (le-leb 0 c (omega arith)) refl

-- a link that takes a slot is one that may become 0
pub below-cut : {t t' : List ℕ} {c : ℕ} {l : Link} {S S' : Tree} → ChangedBelow t t' c l S S' → Cut t t' c l S S'
below-cut b =
    record {
      sized = b.sized;
      top = b.top;
      most = b.most;
      spells = b.spells;
      slots = λ k i z. b.slots k i z ∙ rw (ne_eqb b.top 0 (λ q. omega (arith, b.first))) refl;
      root = b.root;
      head = b.head;
    }

-- a node over its near son, at link l
module _ {t : List ℕ} {c : ℕ} (l : Link) (s : Side) (d : Batch) (p : Pair) (near far : Tree) (h : Hangs t c l (mk s d p near far)) where
  abbrev x : ℕ
  x = word t (link_at l)

  -- the link to the son
  abbrev down : Link
  down = record { holder = x; side = s }

  top : Looks t c x s d p near far
  top = look t c x d p near far s h.spells

  total : (k : ℕ) → times k (mk s d p near far) ≡ same k x + (times k near + times k far)
  total k = times-mk s d p near far k ∙ rw (ap (λ (b : Batch). b.slot) top.holds)

  down_is : word t (link_at down) ≡ son (slot_at t x) s
  down_is = link-son t down top.there

  pub hangs-down : Hangs t c down near
  hangs-down =
      record {
        sized = h.sized;
        holder = h.most;
        most = rw down_is (fit-son c (slot_at t x) s top.fit);
        spells = rw down_is top.near_son;
        once = λ k. omega (arith, total k, h.once k);
        apart = omega (arith, total x, h.once x, same-one x x refl);
      }

  pub holder-fit : fit_slot c (slot_at t x) ≡ true
  holder-fit = top.fit

  -- slot x with the son's link and the register beside it written, and all else outside the son as it was
  module _ {t' : List ℕ} (near' : Tree) (y g : ℕ) (sized' : Sized t' c) (spells' : Spells t' c y near')
      (good : link_ok c y g ≡ true)
      (slot-x : slot_at t' x ≡ shape s (slot_at t x) y (son (slot_at t x) (other s)) (pair g (seen s (slot_at t x)).far))
      (stay : (k : ℕ) → 1 ≤ k → times k near ≡ 0 → (k ≡ x → ⊥) → slot_at t' k ≡ slot_at t k)
      (root' : word t' root_word ≡ word t root_word) (head' : (i : ℕ) → 1 ≤ i → i < head_words → word t' i ≡ word t i) where
    node-below : ChangedBelow t t' c l (mk s d p near far) (mk s d (pair g p.far) near' far)
    node-below =
        record {
          sized = sized';
          top = x;
          first = top.there;
          most = h.most;
          spells = rw top.registers
              (spell t' c x d _ near' far s (slot_at t x) y _ top.there slot-x
              ((fit-from c (slot_at t x) top.fit s).other_links y _ _ good (fit-from c (slot_at t x) top.fit s).far)
              top.holds spells'
              (frame t t' c _ far
              (λ k i. stay k (first_slot t c _ far top.far_son k i) (omega (arith, total k, h.once k))
              (λ q. omega (arith, total k, h.once k, same-one k x q)))
              top.far_son));
          slots = λ k i z. stay k i (omega (arith, total k)) (λ q. omega (arith, total k, same-one k x q)) ∙ steady t l k i;
          root = root' ∙ steady-root t l;
          head = head';
        }

  not_root : eqb x 0 ≡ false
  not_root = ne_eqb x 0 (λ q. omega (arith, top.there))

  outside : times x near ≡ 0
  outside = omega (arith, total x, h.once x, same-one x x refl)

  module _ {t' : List ℕ} where
    -- a change below the son's link is one below the node's; where nothing is left there, the register beside it is 0
    pub above-cut : (near' : Tree) → Cut t t' c down near near'
        → ChangedBelow t t' c l (mk s d p near far) (mk s d (pair (beside p.near near') p.far) near' far)
    unfolding Spells
    above-cut leaf b =
        let e : eqb b.top 0 ≡ true = rw b.spells refl in
        let r = slot_at t x in
        node-below leaf 0 0 b.sized refl (no-link c)
        (b.slots x top.there outside
        ∙ rw (e, eq-eqb x x refl)
        (ap (λ y. with_part (register_on s) 0 (with_part (son_on s) 0 y)) (sym (shape-self s r))
        ∙ ap (with_part (register_on s) 0) (near-son s r _ _ _ 0) ∙ near-register s r _ _ _ 0))
        (λ k i z ne. b.slots k i z ∙ rw (e, ne_eqb k x ne)) (b.root ∙ rw not_root) b.head
    above-cut (node d' a' b' l' r') b =
        let e : eqb b.top 0 ≡ false = ne_eqb b.top 0 (λ q. omega (arith, b.spells.there)) in
        let r = slot_at t x in
        node-below (node d' a' b' l' r') b.top p.near b.sized b.spells
        (rw top.registers
        (link_on c b.top _ b.spells.there b.most (low-register c _ _ (fit-from c r top.fit s).near)))
        (b.slots x top.there outside
        ∙ rw (e, eq-eqb x x refl)
        (ap (with_part (son_on s) b.top) (sym (shape-self s r))
        ∙ near-son s r _ _ _ b.top ∙ rw top.registers refl))
        (λ k i z ne. b.slots k i z ∙ rw (e, ne_eqb k x ne)) (b.root ∙ rw not_root) b.head

    pub changed-above : (near' : Tree) → ChangedBelow t t' c down near near'
        → ChangedBelow t t' c l (mk s d p near far) (mk s d p near' far)
    unfolding Spells
    changed-above leaf b = absurd (omega (arith, b.first, b.spells))
    changed-above (node d' a' b' l' r') b = above-cut (node d' a' b' l' r') (below-cut b)
