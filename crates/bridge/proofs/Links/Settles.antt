-- A change below the root, then words 1 and 2: the table is sound again. Assumes nothing.
use Prim.Native.Nat.{ℕ, ◌≤◌}
use mathlib.Core.Path.{◌≡◌, refl, sym, ◌∙◌, ap, subst}
use mathlib.Core.Option.{some}
use mathlib.Core.Bool.{true}
use mathlib.Core.List.{List}
use native.Mathlib.Omega.{arith}
use lib.ListN.{set, length-set}
use lib.Seq.{get_or-set_same, get_or-set_other}
use lib.Dec.{eqb}
use borrow.Author.Tests.{ne_eqb}
use Rattle.scope.proofs.Bools.{by_bool}
use Rattle.scope.specs.Numbers.{root_link}
use Rattle.scope.specs.Table.{word, root_word, count_word, change_word, zero_word, slot_at, with_slot, link_at}
use Rattle.scope.specs.Fit.{header_ok, blank_slot, record_ok}
use Rattle.scope.specs.Tree.{Batch, Tree, node, size, times, Ordered}
use Rattle.scope.specs.Sound.{Spells, Sound}
use Rattle.scope.specs.Amend.{with_pieces}
use Rattle.scope.specs.declared.side.Link.{Link}
use Rattle.spelling.specs.Ready.{Sized}
use Rattle.spelling.proofs.Laws.{header-count}
use Rattle.spelling.specs.Whole.{Whole}
use Rattle.spelling.proofs.Frame.{frame}
use Rattle.spelling.proofs.Spell.{tree-in}
use Rattle.bridge.specs.Below.{Hangs, ChangedBelow, Cut}
use Rattle.bridge.specs.Leads.{link_along}
use Rattle.tree.specs.Seek.{seek, route, end_of, amend_top}
use Rattle.bridge.specs.Settled.{Resettled, Spelled}
use Rattle.bridge.proofs.Links.Outside.{first_slot}
use Rattle.spelling.proofs.Wrote.{head-slots}
use Rattle.bridge.proofs.Links.Above.{below-cut}
use Rattle.bridge.proofs.Firing.Along.{hangs-along, cut-key}
use Rattle.tree.proofs.Keys.Keyed.{end-there, end-found, amended_tree, amended-times, amended-size, amended-ordered}
use Rattle.bridge.proofs.Records.Amends.{amend-below}
use Rattle.bridge.proofs.Firing.Fires.{hangs-root, new-header}

pub settles : {t t₁ t₂ : List ℕ} {c : ℕ} {T T' : Tree} → header_ok c t ≡ true → Cut t t₁ c root_link T T'
    → Resettled t₁ t₂ c T' → Spelled t₂ c T'
settles {t} {t₁} {t₂} {c} {T} {T'} e b s =
    let top : word t₂ root_word ≡ b.top = s.root ∙ b.root in
    let s₂ : Sound t₂ c = record {
      header = new-header t t₂ c e (rw top b.most) (omega (arith, s.count, s.room)) (s.zero ∙ b.head 3 (omega arith) (omega arith));
      tree = T';
      reached = rw top (frame t₁ t₂ c b.top T' (λ k i. s.slots k (first_slot t₁ c b.top T' b.spells k i)) b.spells);
      once = s.once;
      count = s.count;
      order = s.order;
      rest = λ k i j z. rw (s.slots k i) (s.rest k i j z);
    } in
    record { sound = s₂; tree = tree-in t₂ c s₂ }

-- below the root's link no other slot holds it
pub root-slots : {t t₁ : List ℕ} {c : ℕ} {T T' : Tree} → Cut t t₁ c root_link T T' → (k : ℕ) → 1 ≤ k → times k T ≡ 0
    → slot_at t₁ k ≡ slot_at t k
root-slots b k i z =
    b.slots k i z
    ∙ by_bool (eqb b.top 0)
    (λ e. rw (e, ne_eqb k 0 (λ q. omega arith)) refl) (λ e. rw (e, ne_eqb k 0 (λ q. omega arith)) refl)

-- with another count and change number
module _ {t₁ : List ℕ} {c : ℕ} (z : Sized t₁ c) (n m : ℕ) where
  abbrev pub recounted : List ℕ
  recounted = set (set t₁ count_word n) change_word m

  pub recounted-sized : Sized recounted c
  recounted-sized = record { room = simp length-set z.room; some = z.some; most = z.most }

  others : (i : ℕ) → (i ≡ count_word → ⊥) → (i ≡ change_word → ⊥) → word recounted i ≡ word t₁ i
  others i p q = get_or-set_other (set t₁ count_word n) change_word i m 0 q ∙ get_or-set_other t₁ count_word i n 0 p

  pub recounted-change : word recounted change_word ≡ m
  recounted-change = get_or-set_same (set t₁ count_word n) change_word m 0 (simp length-set (omega (arith, z.room)))

  pub recounted-settled : {T : Tree} → size T ≡ n → size T ≤ c → ((k : ℕ) → 1 ≤ k → k ≤ c → times k T ≤ 1) → Ordered T
      → ((k : ℕ) → 1 ≤ k → k ≤ c → times k T ≡ 0 → blank_slot (slot_at t₁ k) ≡ true)
      → Resettled t₁ recounted c T
  recounted-settled count room once order rest =
      let u = set t₁ count_word n in
      record {
        sized = recounted-sized;
        slots = λ j i. head-slots u change_word m j (omega arith) i ∙ head-slots t₁ count_word n j (omega arith) i;
        root = others root_word (λ q. omega arith) (λ q. omega arith);
        zero = others zero_word (λ q. omega arith) (λ q. omega arith);
        count = count
            ∙ sym (get_or-set_other u change_word count_word m 0 (λ q. omega arith)
            ∙ get_or-set_same t₁ count_word n 0 (omega (arith, z.room)));
        room = room;
        once = once;
        order = order;
        rest = rest;
      }

-- the record of a key is amended
module _ {t : List ℕ} {c : ℕ} (w : Whole t c) (key pieces state : ℕ) (ok : record_ok key pieces state ≡ true) (d : Batch)
    (found : seek key w.sound.tree ≡ some d) (n : ℕ) where
  abbrev T : Tree
  T = w.sound.tree

  abbrev l : Link
  l = link_along t (route key T) root_link

  abbrev t₁ : List ℕ
  t₁ = with_slot t d.slot (with_pieces (slot_at t d.slot) pieces state)

  at_end : Hangs t c l (end_of key T)
  at_end = hangs-along (route key T) root_link T (end_of key T) (hangs-root w) (end-there key T)

  here : (a b : ℕ) (left right : Tree) → Hangs t c l (node d a b left right)
      → ChangedBelow t t₁ c l (node d a b left right) (amend_top pieces state (node d a b left right))
  unfolding Spells
  here a b left right h =
      let at : word t (link_at l) ≡ d.slot = ap (λ (e : Batch). e.slot) (sym h.spells.holds) in
      subst (λ (k : ℕ). ChangedBelow t (with_slot t k (with_pieces (slot_at t k) pieces state)) c l (node d a b left right)
      (amend_top pieces state (node d a b left right))) at (amend-below l d a b left right h key pieces state ok)

  cut-root : Cut t t₁ c root_link T (amended_tree key pieces state T)
  cut-root =
      cut-key key (amend_top pieces state) T root_link (hangs-root w)
      (below-cut
      (end-found key T d found (λ E. Hangs t c l E → ChangedBelow t t₁ c l E (amend_top pieces state E)) here at_end))

  pub amended-whole : Spelled (set t₁ change_word n) c (amended_tree key pieces state T)
  amended-whole =
      settles w.sound.header cut-root
      (record {
        sized = record { room = simp length-set cut-root.sized.room; some = w.sized.some; most = w.sized.most };
        slots = λ k i. head-slots t₁ change_word n k (omega arith) i;
        root = get_or-set_other t₁ change_word root_word n 0 (λ q. omega arith);
        zero = get_or-set_other t₁ change_word zero_word n 0 (λ q. omega arith);
        count = amended-size key pieces state T ∙ w.sound.count ∙ sym (cut-root.head 1 (omega arith) (omega arith))
            ∙ sym (get_or-set_other t₁ change_word count_word n 0 (λ q. omega arith));
        room = omega (arith, amended-size key pieces state T, w.sound.count, header-count c t w.sound.header);
        once = λ k i j. rw (amended-times key pieces state k T) (w.sound.once k i j);
        order = amended-ordered key pieces state T w.sound.order;
        rest = λ k i j z. let none-there = sym (amended-times key pieces state k T) ∙ z in
            rw (root-slots cut-root k i none-there) (w.sound.rest k i j none-there);
      })
