-- A balanced tree whose slots are numbered from left to right fills a sound table. Assumes nothing.
use Prim.Native.Nat.{ℕ, suc, ◌+◌, ◌≤◌, ◌<◌}
use mathlib.Core.Path.{◌≡◌, refl, sym, ◌∙◌}
use mathlib.Core.Bool.{true}
use mathlib.Core.List.{List}
use native.Mathlib.Omega.{arith}
use lib.ListN.{length, set, length-set, length-replicate, get_or-replicate}
use lib.Seq.{get_or-set_same, get_or-set_other}
use borrow.Author.Tests.{le-leb, ne_eqb}
use Rattle.scope.specs.Numbers.{most_slots}
use Rattle.scope.specs.Table.{head_words, table_words, word, root_word, count_word, zero_word, slot_at, with_slot, with_links}
use Rattle.scope.specs.Fit.{state_ok, pieces_ok, link_ok, tail_ok, fit_slot, header_ok}
use Rattle.scope.specs.Tree.{Batch, Tree, leaf, node, size, times, true_height, Ordered}
use Rattle.scope.specs.Sound.{Spells, Sound}
use Rattle.scope.specs.Post.{leaf_slot}
use Rattle.scope.specs.declared.slot.Slot.{Slot}
use Rattle.spelling.specs.Ready.{Sized}
use Rattle.spelling.specs.Whole.{Whole}
use Rattle.spelling.proofs.Fits.{link_on}
use Rattle.spelling.proofs.Frame.{frame}
use Rattle.spelling.proofs.Slots.{slot-here}
use Rattle.spelling.proofs.Wrote.{slot-there, slot-head, slot-sized}
use Rattle.spelling.proofs.Zeros.{zeros}
use Rattle.tree.specs.Shape.{Balanced}
use Rattle.tree.proofs.Rest.Height.{height-size}
use Rattle.tree.proofs.Shown.Marked.{batch}
use Rattle.tree.proofs.Shown.Sharp.{SlotsNumbered}
use Rattle.bridge.proofs.Links.Outside.{same-one}
use Rattle.demands.proofs.Third.Numbered.{slot_is, before-none, between-once, within-slots}

-- the slot at the top of a tree, 0 for none; and what stands in the slot of a node
abbrev top : Tree → ℕ
top leaf = 0
top (node d a b l r) = d.slot

abbrev node_slot : Batch → ℕ → ℕ → Tree → Tree → Slot
node_slot d a b l r = with_links (leaf_slot d.key d.pieces d.state) (top l) (top r) a b

-- a table with the slots of a tree written
unfoldable fill : Tree → List ℕ → List ℕ
fill leaf t = t
fill (node d a b l r) t = with_slot (fill r (fill l t)) d.slot (node_slot d a b l r)

top-most : (k c : ℕ) (T : Tree) → SlotsNumbered k T → k + size T ≤ c → top T ≤ c
unfolding size
top-most k c leaf n h = omega arith
top-most k c (node d a b l r) n h = omega (arith, slot_is k d a b l r n)

-- from t to u the slots of a tree are written, and nothing else
record Fills (t u : List ℕ) (c : ℕ) (T : Tree) : Type 0 where
  sized : Sized u c
  head : (i : ℕ) → i < head_words → word u i ≡ word t i
  others : (j : ℕ) → 1 ≤ j → times j T ≡ 0 → slot_at u j ≡ slot_at t j
  spelled : Spells u c (top T) T

module _ (c : ℕ) (m : c ≤ most_slots) where
  -- a link to a numbered tree beside its true height, and a node over two such links
  link_fits : (k : ℕ) (T : Tree) → SlotsNumbered k T → k + size T ≤ c → link_ok c (top T) (true_height T) ≡ true
  unfolding size true_height
  link_fits k leaf n h = unfold link_ok in rw (le-leb 0 c (omega arith)) refl
  link_fits k (node d a b l r) n h =
      let s = slot_is k d a b l r n in
      link_on c d.slot _ (omega (arith, s)) (omega (arith, s)) (omega (arith, height-size l, height-size r))

  node-fits : (k a b : ℕ) (l r : Tree) → SlotsNumbered k l → SlotsNumbered (suc (k + size l)) r → a ≡ true_height l → b ≡ true_height r
      → suc (k + size l) + size r ≤ c → fit_slot c (node_slot (batch (suc (k + size l))) a b l r) ≡ true
  unfolding fit_slot state_ok pieces_ok tail_ok
  node-fits k a b l r n o ea eb h =
      let mid = k + size l in
      rw (
        ea,
        eb,
        link_fits k l n (omega arith),
        link_fits (suc mid) r o h,
        ne_eqb (suc mid) 0 (λ q. omega arith),
      ) refl

  -- two filled sides and the node over them
  module _ (k : ℕ) (d : Batch) (a b : ℕ) (l r : Tree) (n : SlotsNumbered k (node d a b l r)) (i : Balanced (node d a b l r))
      (h : k + size (node d a b l r) ≤ c) (t t₁ t₂ : List ℕ) (L : Fills t t₁ c l) (R : Fills t₁ t₂ c r) where
    s : d.slot ≡ suc (k + size l)
    s = slot_is k d a b l r n

    most : d.slot ≤ c
    unfolding size
    most = omega (arith, s)

    room : suc (k + size l) + size r ≤ c
    unfolding size
    room = omega arith

    abbrev u : List ℕ
    u = with_slot t₂ d.slot (node_slot d a b l r)

    there : (j : ℕ) → 1 ≤ j → (j ≡ d.slot → ⊥) → slot_at u j ≡ slot_at t₂ j
    there = slot-there R.sized d.slot (node_slot d a b l r) (omega (arith, s)) most

    here : slot_at u d.slot ≡ node_slot d a b l r
    here = slot-here R.sized d.slot (node_slot d a b l r) (omega (arith, s)) most

    left-stays : Spells u c (top l) l
    left-stays =
        frame t₁ u c (top l) l (λ j p.
        let q = within-slots l k j n.1 p in
        there j (omega (arith, q.0)) (λ e. omega (arith, q.1, s))
        ∙ R.others j (omega (arith, q.0)) (before-none r (suc (k + size l)) j n.2 (omega (arith, q.1))))
        L.spelled

    right-stays : Spells u c (top r) r
    right-stays =
        frame t₂ u c (top r) r (λ j p.
        let q = within-slots r (suc (k + size l)) j n.2 p in
        there j (omega (arith, q.0)) (λ e. omega (arith, q.0, s)))
        R.spelled

    node-fills : Fills t u c (node d a b l r)
    unfolding Spells times
    node-fills =
        record {
          sized = slot-sized R.sized d.slot (node_slot d a b l r) (omega (arith, s)) most;
          head = λ j p. slot-head R.sized d.slot (node_slot d a b l r) (omega (arith, s)) most j p
              ∙ R.head j p ∙ L.head j p;
          others = λ j p z. there j p (λ e. omega (arith, same-one j d.slot e))
              ∙ R.others j p (omega arith) ∙ L.others j p (omega arith);
          spelled = record {
            there = omega (arith, s);
            fit = rw here (rw n.0 (node-fits k a b l r n.1 n.2 i.near.0 i.far.0 room));
            holds = rw here refl;
            lefth = rw here refl;
            righth = rw here refl;
            left = rw here left-stays;
            right = rw here right-stays;
          };
        }

  -- WRITING THE SLOTS OF A NUMBERED TREE SPELLS IT
  fills : (T : Tree) (k : ℕ) (t : List ℕ) → Sized t c → SlotsNumbered k T → Balanced T → k + size T ≤ c → Fills t (fill T t) c T
  unfolding fill size
  fills leaf k t z n i h = record { sized = z; head = λ j p. refl; others = λ j p q. refl; spelled = unfold Spells in refl }
  fills (node d a b l r) k t z n i h =
      let L = fills l k t z n.1 i.in_near (omega arith) in
      let R = fills r (suc (k + size l)) (fill l t) L.sized n.2 i.in_far (omega arith) in
      node-fills k d a b l r n i h t (fill l t) (fill r (fill l t)) L R

-- a sound table with no free slot that spells a tree
pub record FilledTable (T : Tree) : Type 0 where
  pub words : List ℕ
  pub whole : Whole words (size T)
  pub tree : whole.sound.tree ≡ T

-- A NUMBERED, ORDERED AND BALANCED TREE FILLS A SOUND TABLE
module _ (T : Tree) (n : SlotsNumbered 0 T) (o : Ordered T) (i : Balanced T) (first : 1 ≤ size T) (m : size T ≤ most_slots) where
  -- zeros, but for the root and the count
  abbrev rooted : List ℕ
  rooted = set (zeros (size T)) root_word (top T)

  abbrev headed : List ℕ
  headed = set rooted count_word (size T)

  long : length (zeros (size T)) ≡ table_words (size T)
  long = length-replicate (table_words (size T)) 0

  root_is : word headed root_word ≡ top T
  root_is =
      get_or-set_other rooted count_word root_word (size T) 0 (λ e. omega arith)
      ∙ get_or-set_same (zeros (size T)) root_word (top T) 0 (omega (arith, long))

  count-is : word headed count_word ≡ size T
  count-is = get_or-set_same rooted count_word (size T) 0 (simp length-set (omega (arith, long)))

  zero_is : word headed zero_word ≡ 0
  zero_is =
      get_or-set_other rooted count_word zero_word (size T) 0 (λ e. omega arith)
      ∙ get_or-set_other (zeros (size T)) root_word zero_word (top T) 0 (λ e. omega arith)
      ∙ get_or-replicate (table_words (size T)) zero_word 0 0 (omega arith)

  sized : Sized headed (size T)
  sized = record { room = simp length-set (sym long); some = first; most = m }

  full : Fills headed (fill T headed) (size T) T
  full = fills (size T) m T 0 headed sized n i (omega arith)

  header_is : header_ok (size T) (fill T headed) ≡ true
  unfolding header_ok
  header_is =
      rw (
        full.head root_word (omega arith) ∙ root_is,
        full.head count_word (omega arith) ∙ count-is,
        full.head zero_word (omega arith) ∙ zero_is,
        le-leb (top T) (size T) (top-most 0 (size T) T n (omega arith)),
        le-leb (size T) (size T) (omega arith),
      ) refl

  full-sound : Sound (fill T headed) (size T)
  full-sound =
      record {
        header = header_is;
        tree = T;
        reached = rw (full.head root_word (omega arith) ∙ root_is) full.spelled;
        once = λ k p q. omega (arith, between-once T 0 k n p (omega arith));
        count = sym (full.head count_word (omega arith) ∙ count-is);
        order = o;
        rest = λ k p q z. absurd (omega (arith, between-once T 0 k n p (omega arith), z));
      }

  pub filled : FilledTable T
  unfolding full-sound
  filled = record { words = fill T headed; whole = record { sized = full.sized; sound = full-sound }; tree = refl }
