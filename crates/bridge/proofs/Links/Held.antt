-- On a sound table every record hangs at one link, and no two links hold the same slot. Assumes nothing.
use Prim.Native.Nat.{ℕ, ◌≤◌}
use mathlib.Core.Path.{◌≡◌, refl, sym, ◌∙◌, ap}
use mathlib.Core.Option.{some}
use mathlib.Core.List.{List, [], ◌∷◌}
use native.Mathlib.Omega.{arith}
use native.Mathlib.Decide.{dec_le, ℕ_discrete}
use borrow.Author.Tests.{eqb-true}
use Rattle.scope.specs.Numbers.{root_link}
use Rattle.scope.specs.Table.{word, slot_at, link_at}
use Rattle.scope.specs.Tree.{Batch, Tree, leaf, node, times}
use Rattle.scope.specs.Sound.{Spells}
use Rattle.scope.specs.declared.side.Side.{Side}
use Rattle.scope.specs.declared.side.Link.{Link}
use Rattle.spelling.proofs.Slots.{blank-state, blank-son}
use Rattle.spelling.specs.Whole.{Whole}
use Rattle.spelling.proofs.Frame.{none-at-0}
use Rattle.spelling.proofs.Once.{once-all}
use Rattle.tree.specs.Place.{subtree}
use Rattle.tree.proofs.Firing.Steps.{on-top}
use Rattle.tree.proofs.Firing.Place.{same_none, Stands, stands, one_place}
use Rattle.spelling.proofs.Laws.{link-son}
use Rattle.bridge.specs.Leads.{link_along, Leads}
use Rattle.bridge.proofs.Links.Looks.{look}
use Rattle.bridge.proofs.Links.Ways.{leads, leads-holder}
use Rattle.bridge.proofs.Firing.Along.{hangs-along}
use Rattle.bridge.proofs.Firing.Fires.{hangs-root}
use Rattle.spelling.proofs.Slots.{blank-state}
use Rattle.bridge.proofs.Firing.Calls.{LinkIn}

-- of the links in a tree only the root's is held by slot 0
pub root-only : (t : List ℕ) (c : ℕ) (way : List Side) (T S : Tree) → Spells t c (word t (link_at root_link)) T
    → subtree way T ≡ some S
    → (link_along t way root_link).holder ≡ 0 → link_along t way root_link ≡ root_link
unfolding subtree link_along
root-only t c [] T S p e z = refl
root-only t c (s ∷ way) T S p e z =
    on-top s T S _ e
    (λ X. Spells t c (word t (link_at root_link)) X → link_along t (s ∷ way) root_link ≡ root_link)
    (λ d x near far q h.
    let a = look t c (word t (link_at root_link)) d x near far s h in
    let down : Link = record { holder = word t (link_at root_link); side = s } in
    let near-spells = rw (← link-son t down a.there) at a.near_son in
    let k = leads-holder t c way down near S near-spells q in
    absurd (omega (
      arith,
      rw z at k,
      same_none 0 (word t (link_at root_link)) (λ i. omega (arith, a.there)),
      none-at-0 t c (word t (link_at down)) near near-spells,
    )))
    p

-- the top of what a link holds is the slot there
top-slot : (t : List ℕ) (c x : ℕ) (d : Batch) (a b : ℕ) (l r : Tree) → Spells t c x (node d a b l r) → d.slot ≡ x
unfolding Spells
top-slot t c x d a b l r p = ap (λ (e : Batch). e.slot) p.holds

-- a link of the table that holds slot k
pub record HeldAt (t : List ℕ) (c k : ℕ) : Type 0 where
  pub link : Link
  pub link_in : LinkIn c link
  pub is : word t (link_at link) ≡ k

module _ {t : List ℕ} {c : ℕ} (w : Whole t c) where
  abbrev T : Tree
  T = w.sound.tree

  -- a way leads to every link that holds a slot
  pub way-to : (l : Link) → LinkIn c l → 1 ≤ word t (link_at l) → Leads t root_link T l
  way-to l i h =
      elim (ℕ_discrete l.holder 0) [
        | yes e ↦ rw (i.root e)
            (record { way = []; tree = T; there = unfold subtree in refl; ends = unfold link_along in refl })
        | no ne ↦ elim (dec_le 1 (times l.holder T)) [
          | yes k ↦ leads t c l.holder l.side root_link T (hangs-root w).spells k
          | no k ↦
              let b = w.sound.rest l.holder (omega arith) i.most (omega arith) in
              absurd (omega (arith, link-son t l (omega arith), blank-son (slot_at t l.holder) b l.side))
        ]
      ]

  -- and there is the slot's place in the tree
  stands_at : (way : List Side) (S : Tree) (x : ℕ) → subtree way T ≡ some S → Spells t c x S → 1 ≤ x
      → (s : Stands x T) × (s.way ≡ way)
  unfolding Spells
  stands_at way leaf x e p h = absurd (omega arith)
  stands_at way (node d a b l r) x e p h = (
    record {
      way = way;
      top = d;
      left = a;
      right = b;
      in_left = l;
      in_right = r;
      there = e;
      slot = ap (λ (e : Batch). e.slot) p.holds;
    },
    refl,
  )

  place_of : (l : Link) → LinkIn c l → (x : ℕ) → word t (link_at l) ≡ x → 1 ≤ x
      → (s : Stands x T) × (link_along t s.way root_link ≡ l)
  place_of l i x e h =
      let p = way-to l i (rw e h) in
      let a = rw (p.ends, e) at (hangs-along p.way root_link T p.tree (hangs-root w) p.there).spells in
      let s = stands_at p.way p.tree x p.there a h in
      (s.0, ap (λ (way : List Side). link_along t way root_link) s.1 ∙ p.ends)

  -- EVERY SLOT HANGS AT ONE LINK ONLY
  pub one_link : (l m : Link) → LinkIn c l → LinkIn c m → word t (link_at l) ≡ word t (link_at m) → 1 ≤ word t (link_at l)
      → l ≡ m
  one_link l m i j e h =
      let k = word t (link_at l) in
      let x = place_of l i k refl h in
      let y = place_of m j k (sym e) h in
      sym x.1
      ∙ ap (λ (way : List Side). link_along t way root_link) (one_place k T (once-all t c w.sound k) x.0 y.0)
      ∙ y.1

  -- AND EVERY RECORD HANGS SOMEWHERE
  pub some-link : (k : ℕ) → 1 ≤ k → k ≤ c → ((slot_at t k).state ≡ 0 → ⊥) → HeldAt t c k
  some-link k i j ne =
      elim (dec_le 1 (times k T)) [
        | yes h ↦
            let s = stands k T h in
            let S = node s.top s.left s.right s.in_left s.in_right in
            let g = hangs-along s.way root_link T S (hangs-root w) s.there in
            record {
              link = link_along t s.way root_link;
              link_in = record { most = g.holder; root = root-only t c s.way T S (hangs-root w).spells s.there };
              is = sym (top-slot t c _ _ _ _ _ _ g.spells) ∙ s.slot;
            }
        | no h ↦ absurd (ne (eqb-true _ _ (blank-state (slot_at t k) (w.sound.rest k i j (omega arith)))))
      ]
