-- A link takes another slot or none, and the slot that hung there is blanked: what the slots then are. Assumes nothing.
use Prim.Native.Nat.{ℕ, ◌+◌, ◌≤◌, ◌<◌}
use mathlib.Core.Path.{◌≡◌, refl, sym, ◌∙◌, ap, subst}
use mathlib.Core.Bool.{false, cond, not, ◌||◌}
use mathlib.Core.List.{List, [], ◌∷◌}
use native.Mathlib.Omega.{arith}
use lib.ListN.{set, length-set}
use lib.Dec.{eqb}
use borrow.Author.Tests.{ne_eqb, eqb-true}
use Rattle.scope.proofs.Bools.{by_bool}
use Rattle.scope.specs.Numbers.{other}
use Rattle.scope.specs.Table.{head_words, word, root_word, slot_at, son, link_at, register_at, written}
use Rattle.scope.specs.Table.{zero_slot}
use Rattle.scope.specs.Tree.{Batch, Tree, leaf, node, times, same}
use Rattle.scope.specs.Sound.{Spells}
use Rattle.scope.specs.Rules.{pair}
use Rattle.scope.specs.Drop.{lifted}
use Rattle.scope.specs.Drop as drop
use Rattle.scope.specs.declared.rule.Pair.{Pair}
use Rattle.scope.specs.declared.side.Side.{Side}
use Rattle.scope.specs.declared.side.Side.TheVariants.{Left}
use Rattle.scope.specs.declared.side.Link.{Link}
use Rattle.spelling.specs.Ready.{Sized}
use Rattle.spelling.proofs.Laws.{fit-son}
use Rattle.spelling.proofs.Frame.{frame}
use Rattle.tree.specs.Rewrite.{mk}
use Rattle.tree.proofs.Firing.Sides.{times-mk}
use Rattle.scope.specs.Edits.{son_on, register_on, edit, place_of, writes}
use Rattle.bridge.specs.Edit.{edited, rooted}
use Rattle.bridge.specs.Below.{Hangs, slot_relinked, emptied, Cut}
use Rattle.tree.specs.Without.{least, least_link, without_least}
use Rattle.bridge.proofs.Links.Edited.{Rewritten, rewritten}
use Rattle.bridge.proofs.Links.Looks.{Looks, look}
use Rattle.bridge.proofs.Links.Outside.{same-one, first_slot}
use Rattle.spelling.proofs.Wrote.{slot-there, slot-head, slot-sized}
use Rattle.spelling.proofs.Slots.{slot-here}
use Rattle.bridge.proofs.Links.Above.{hangs-down, above-cut, below-cut}

-- a slot that is blanked is blank
relinked-sized : {t : List ℕ} {c : ℕ} (l : Link) (y : ℕ) → Sized t c → Sized (drop.relinked t l y) c
unfolding drop.relinked
relinked-sized l y z =
    by_bool (not (eqb y 0) || eqb l.holder 0)
    (λ e. rw e (record { room = simp length-set z.room; some = z.some; most = z.most }))
    (λ e. rw e (record { room = simp length-set z.room; some = z.some; most = z.most }))

pub lifted-blank : {t : List ℕ} {c : ℕ} (k : ℕ) (l : Link) (y : ℕ) → Sized t c → 1 ≤ k → k ≤ c
    → slot_at (lifted t k l y) k ≡ zero_slot
lifted-blank k l y z i j = slot-here (relinked-sized l y z) k zero_slot i j

-- what a link that takes y leaves
record Taken (t t₁ : List ℕ) (c : ℕ) (l : Link) (y : ℕ) : Type 0 where
  sized : Sized t₁ c
  slots : (k : ℕ) → 1 ≤ k → slot_at t₁ k ≡ cond (eqb y 0) (emptied l k (slot_at t k)) (slot_relinked l y k (slot_at t k))
  root : word t₁ root_word ≡ cond (eqb l.holder 0) y (word t root_word)
  head : (i : ℕ) → 1 ≤ i → i < head_words → word t₁ i ≡ word t i

module _ {t : List ℕ} {c : ℕ} (z : Sized t c) (l : Link) (held : l.holder ≤ c) (y : ℕ) where
  abbrev h : ℕ
  h = l.holder

  -- the link alone
  alone : Rewritten t (set t (link_at l) y) c (edit h (son_on l.side) y ∷ [])
  unfolding written writes link_at
  alone = rewritten z (edit h (son_on l.side) y ∷ []) (held, tt)

  -- and the register beside it
  both : eqb h 0 ≡ false
      → Rewritten t (set (set t (link_at l) y) (register_at h l.side) 0) c
      (edit h (son_on l.side) y ∷ edit h (register_on l.side) 0 ∷ [])
  unfolding written writes link_at
  both e =
      let es = edit h (son_on l.side) y ∷ edit h (register_on l.side) 0 ∷ [] in
      let at : place_of h (register_on l.side) ≡ register_at h l.side = rw e refl in
      subst (λ (i : ℕ). Rewritten t (set (set t (link_at l) y) i 0) c es) at (rewritten z es (held, (held, tt)))

  takes : Taken t (drop.relinked t l y) c l y
  unfolding drop.relinked edited rooted
  takes =
      by_bool (eqb y 0)
      (λ e. by_bool (eqb h 0)
      (λ g. rw (e, g) (record {
        sized = alone.sized;
        slots = λ k i. alone.slots k i ∙ rw (e, ne_eqb k h (λ q. omega (arith, eqb-true h 0 g))) refl;
        root = alone.root;
        head = alone.head;
      }))
      (λ g. rw (e, g) (record {
        sized = (both g).sized;
        slots = λ k i. (both g).slots k i
            ∙ by_bool (eqb k h) (λ q. rw (e, q, eqb-true y 0 e) refl) (λ q. rw (e, q) refl);
        root = (both g).root ∙ rw g refl;
        head = (both g).head;
      })))
      (λ e. rw e (record {
        sized = alone.sized;
        slots = λ k i. alone.slots k i ∙ rw e refl;
        root = alone.root;
        head = alone.head;
      }))

-- a node with no son on one side is lifted out: its other son takes its place
module _ {t : List ℕ} {c : ℕ} (l : Link) (s : Side) (d : Batch) (p : Pair) (far : Tree)
    (h : Hangs t c l (mk s d p leaf far)) where
  abbrev x : ℕ
  x = word t (link_at l)

  abbrev y : ℕ
  y = son (slot_at t x) (other s)

  top : Looks t c x s d p leaf far
  top = look t c x d p leaf far s h.spells

  took : Taken t (drop.relinked t l y) c l y
  took = takes h.sized l h.holder y

  total : (k : ℕ) → times k (mk s d p leaf far) ≡ same k x + times k far
  unfolding times
  total k = times-mk s d p leaf far k ∙ rw (ap (λ (b : Batch). b.slot) top.holds) (omega arith)

  others : (k : ℕ) → 1 ≤ k → (k ≡ x → ⊥) → slot_at (lifted t x l y) k ≡ slot_at (drop.relinked t l y) k
  others k i ne = slot-there took.sized x zero_slot top.there h.most k i ne

  inside : (k : ℕ) → 1 ≤ times k far → slot_at (lifted t x l y) k ≡ slot_at t k
  inside k i =
      let first = first_slot t c y far top.far_son k i in
      let ne : eqb k l.holder ≡ false = ne_eqb k l.holder
      (λ q. omega (arith, total k, h.apart, ap (λ (j : ℕ). times j (mk s d p leaf far)) q)) in
      others k first (λ q. omega (arith, total k, h.once k, same-one k x q)) ∙ took.slots k first
      ∙ by_bool (eqb y 0) (λ e. rw (e, ne) refl) (λ e. rw (e, ne) refl)

  pub lift-cut : Cut t (lifted t x l y) c l (mk s d p leaf far) far
  lift-cut =
      record {
        sized = slot-sized took.sized x zero_slot top.there h.most;
        top = y;
        most = fit-son c (slot_at t x) (other s) top.fit;
        spells = frame t (lifted t x l y) c y far inside top.far_son;
        slots = λ k i z. others k i (λ q. omega (arith, total k, same-one k x q)) ∙ took.slots k i;
        root = slot-head took.sized x zero_slot top.there h.most 0 (omega arith) ∙ took.root;
        head = λ i j k. slot-head took.sized x zero_slot top.there h.most i k ∙ took.head i j k;
      }

-- the leftmost record at or below a node is lifted out
pub least-cut : {t : List ℕ} {c : ℕ} (k : Link) (d : Batch) (a b : ℕ) (l r : Tree) → Hangs t c k (node d a b l r)
    → Cut t (lifted t (least d l).slot (least_link k d l) (slot_at t (least d l).slot).right) c k (node d a b l r)
    (without_least d a b l r)
unfolding Spells least least_link without_least
least-cut {t} {c} k d a b leaf r h =
    let at : word t (link_at k) ≡ d.slot = ap (λ (e : Batch). e.slot) (sym h.spells.holds) in
    subst (λ (j : ℕ). Cut t (lifted t j k (slot_at t j).right) c k (node d a b leaf r) r) at
    (lift-cut k Left d (pair a b) r h)
least-cut {t} {c} k d a b (node e x y l m) r h =
    let at : word t (link_at k) ≡ d.slot = ap (λ (e : Batch). e.slot) (sym h.spells.holds) in
    let on : ℕ → Link = λ j. record { holder = j; side = Left } in
    let L = node e x y l m in
    let hangs : Hangs t c (on d.slot) L
    = subst (λ (j : ℕ). Hangs t c (on j) L) at (hangs-down k Left d (pair a b) L r h) in
    let after : List ℕ = lifted t (least e l).slot (least_link (on d.slot) e l) (slot_at t (least e l).slot).right in
    below-cut (above-cut k Left d (pair a b) L r h (without_least e x y l m)
    (subst (λ (j : ℕ). Cut t after c (on j) L (without_least e x y l m)) (sym at)
    (least-cut (on d.slot) e x y l m hangs)))
