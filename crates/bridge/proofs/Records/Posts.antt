-- A leaf in a free slot, hung where its key belongs: the table is sound, and spells the grown tree. Assumes nothing.
use Prim.Native.Nat.{ℕ, ◌+◌, ◌≤◌, ◌<◌}
use mathlib.Core.Path.{◌≡◌, refl, sym, ◌∙◌, ap}
use mathlib.Core.Bool.{true}
use mathlib.Core.Option.{none, some}
use mathlib.Core.List.{List, [], ◌∷◌}
use native.Mathlib.Omega.{arith}
use native.Mathlib.Decide.{ℕ_discrete}
use lib.ListN.{set}
use borrow.Author.Tests.{ne_eqb}
use Rattle.scope.specs.Numbers.{root_link}
use Rattle.scope.specs.Table.{word, root_word, count_word, change_word, slot_at, with_slot, link_at, written}
use Rattle.scope.specs.Fit.{header_ok, record_ok}
use Rattle.scope.specs.Tree.{Batch, Tree, leaf, node, size, times, same}
use Rattle.scope.specs.Sound.{Spells}
use Rattle.scope.specs.Post.{leaf_slot, hung}
use Rattle.scope.specs.declared.side.Side.{Side}
use Rattle.scope.specs.declared.side.Link.{Link}
use Rattle.spelling.specs.Ready.{Sized}
use Rattle.spelling.proofs.Laws.{header-root, header-count, link-son}
use Rattle.spelling.proofs.Fits.{fit-leaf}
use Rattle.spelling.specs.Whole.{Whole}
use Rattle.spelling.proofs.Frame.{frame, none-at-0}
use Rattle.spelling.proofs.Once.{once-all}
use Rattle.tree.specs.Rewrite.{mk}
use Rattle.tree.specs.Place.{subtree}
use Rattle.tree.proofs.Firing.Steps.{on-top}
use Rattle.tree.proofs.Firing.Sides.{times-mk}
use Rattle.scope.specs.Edits.{son_on, Edit, edit, writes}
use Rattle.bridge.specs.Edit.{edited, rooted}
use Rattle.bridge.specs.Below.{Hangs, ChangedBelow, Cut}
use Rattle.bridge.specs.Leads.{link_along}
use Rattle.tree.specs.Seek.{seek, route, end_of}
use Rattle.bridge.specs.Settled.{Resettled, Spelled}
use Rattle.bridge.proofs.Links.Edited.{Rewritten, rewritten}
use Rattle.bridge.proofs.Links.Looks.{look}
use Rattle.bridge.proofs.Links.Outside.{same-one, first_slot}
use Rattle.spelling.proofs.Wrote.{slot-there, slot-head, slot-sized}
use Rattle.spelling.proofs.Slots.{slot-here}
use Rattle.bridge.proofs.Links.Above.{below-cut}
use Rattle.bridge.proofs.Firing.Along.{hangs-along, cut-key}
use Rattle.bridge.proofs.Links.Ways.{leads-holder}
use Rattle.tree.proofs.Firing.Place.{same_none}
use Rattle.tree.proofs.Keys.Keyed.{end-there}
use Rattle.tree.proofs.Keys.Grown.{end-missing, grown, grown-times, grown-size, grown-ordered}
use Rattle.bridge.proofs.Firing.Fires.{new-header}
use Rattle.bridge.proofs.Links.Settles.{settles, root-slots, recounted-settled, recounted-change}

-- a way leads to the same link where the slots on it are the same
along-same : (t t' : List ℕ) (c : ℕ) (way : List Side) (l : Link) (T S : Tree) → Spells t c (word t (link_at l)) T
    → word t' (link_at l) ≡ word t (link_at l) → ((k : ℕ) → 1 ≤ times k T → slot_at t' k ≡ slot_at t k)
    → subtree way T ≡ some S
    → link_along t' way l ≡ link_along t way l
unfolding subtree link_along
along-same t t' c [] l T S p e h q = refl
along-same t t' c (s ∷ way) l T S p e h q =
    on-top s T S _ q
    (λ X. Spells t c (word t (link_at l)) X → ((k : ℕ) → 1 ≤ times k X → slot_at t' k ≡ slot_at t k)
    → link_along t' (s ∷ way) l ≡ link_along t (s ∷ way) l)
    (λ d x near far i p h.
    let a = look t c (word t (link_at l)) d x near far s p in
    let down : Link = record { holder = word t (link_at l); side = s } in
    let here : times (word t (link_at l)) (mk s d x near far)
    ≡ same (word t (link_at l)) (word t (link_at l)) + (times (word t (link_at l)) near + times (word t (link_at l)) far)
    = times-mk s d x near far _ ∙ rw (ap (λ (b : Batch). b.slot) a.holds) refl in
    let there = h (word t (link_at l)) (omega (arith, here, same-one (word t (link_at l)) (word t (link_at l)) refl)) in
    rw e
    (along-same t t' c way down near S (rw (link-son t down a.there) a.near_son)
    (link-son t' down a.there ∙ rw there refl ∙ sym (link-son t down a.there))
    (λ k z. h k (omega (arith, times-mk s d x near far k))) i))
    p h

-- k is a free slot, and the key is not found
module _ {t : List ℕ} {c : ℕ} (w : Whole t c) (key pieces state : ℕ) (ok : record_ok key pieces state ≡ true)
    (missing : seek key w.sound.tree ≡ none) (k : ℕ) (first : 1 ≤ k) (most : k ≤ c) (free : times k w.sound.tree ≡ 0)
    (room : size w.sound.tree < c) where
  abbrev T : Tree
  T = w.sound.tree

  abbrev new : Batch
  new = record { slot = k; key = key; pieces = pieces; state = state }

  abbrev way : List Side
  way = route key T

  abbrev l : Link
  l = link_along t way root_link

  -- the leaf is written
  abbrev t₀ : List ℕ
  t₀ = with_slot t k (leaf_slot key pieces state)

  same-slots : (j : ℕ) → 1 ≤ times j T → slot_at t₀ j ≡ slot_at t j
  same-slots j h =
      slot-there w.sized k (leaf_slot key pieces state) first most j
      (first_slot t c (word t root_word) T w.sound.reached j h) (λ q. omega (arith, ap (λ (i : ℕ). times i T) q))

  root-same : word t₀ root_word ≡ word t root_word
  root-same = slot-head w.sized k (leaf_slot key pieces state) first most 0 (omega arith)

  still-hangs : Hangs t₀ c root_link T
  unfolding link_at
  still-hangs =
      record {
        sized = slot-sized w.sized k (leaf_slot key pieces state) first most;
        holder = omega arith;
        most = rw root-same (header-root c t w.sound.header);
        spells = rw root-same (frame t t₀ c (word t root_word) T same-slots w.sound.reached);
        once = once-all t c w.sound;
        apart = none-at-0 t c (word t root_word) T w.sound.reached;
      }

  same-link : link_along t₀ way root_link ≡ l
  unfolding link_at
  same-link = along-same t t₀ c way root_link T (end_of key T) w.sound.reached root-same same-slots (end-there key T)

  at_end : Hangs t₀ c l leaf
  at_end = rw (← same-link, ← end-missing key T missing) (hangs-along way root_link T (end_of key T) still-hangs (end-there key T))

  not-holder : k ≡ l.holder → ⊥
  unfolding link_at
  not-holder q =
      let h = leads-holder t c way root_link T (end_of key T) w.sound.reached (end-there key T) in
      omega (arith, same_none l.holder 0 (λ z. omega arith), ap (λ (i : ℕ). times i T) q)

  -- the link takes it
  abbrev linked : List Edit
  linked = edit l.holder (son_on l.side) k ∷ []

  abbrev t₁ : List ℕ
  t₁ = set t₀ (link_at l) k

  wrote : Rewritten t₀ t₁ c linked
  unfolding written writes link_at
  wrote = rewritten still-hangs.sized linked (at_end.holder, tt)

  slot-k : slot_at t₁ k ≡ leaf_slot key pieces state
  unfolding edited
  slot-k =
      wrote.slots k first ∙ rw (ne_eqb k l.holder not-holder)
      (slot-here w.sized k (leaf_slot key pieces state) first most)

  leaf-below : ChangedBelow t₀ t₁ c l leaf (node new 0 0 leaf leaf)
  unfolding Spells edited rooted
  leaf-below =
      record {
        sized = wrote.sized;
        top = k;
        first = first;
        most = most;
        spells = record {
          there = first;
          fit = rw slot-k (fit-leaf c key pieces state ok);
          holds = rw slot-k refl;
          lefth = rw slot-k refl;
          righth = rw slot-k refl;
          left = rw slot-k refl;
          right = rw slot-k refl;
        };
        slots = λ j i z. wrote.slots j i;
        root = wrote.root;
        head = wrote.head;
      }

  cut-root : Cut t₀ t₁ c root_link T (grown new T)
  cut-root =
      cut-key key (λ E. node new 0 0 leaf leaf) T root_link still-hangs
      (below-cut (rw (same-link, end-missing key T missing) leaf-below))

  header₀ : header_ok c t₀ ≡ true
  header₀ =
      new-header t t₀ c w.sound.header (rw root-same (header-root c t w.sound.header))
      (rw (slot-head w.sized k (leaf_slot key pieces state) first most 1 (omega arith)) (header-count c t w.sound.header))
      (slot-head w.sized k (leaf_slot key pieces state) first most 3 (omega arith))

  abbrev t₂ : List ℕ
  t₂ = hung t k l (leaf_slot key pieces state)

  stays : (j : ℕ) → 1 ≤ j → (j ≡ k → ⊥) → times j T ≡ 0 → slot_at t₁ j ≡ slot_at t j
  stays j i ne z =
      root-slots cut-root j i z ∙ slot-there w.sized k (leaf_slot key pieces state) first most j i ne

  once' : (j : ℕ) → 1 ≤ j → j ≤ c → times j (grown new T) ≤ 1
  once' j a b =
      elim (ℕ_discrete j k) [
        | yes e ↦ omega (arith, grown-times new j T missing, same-one j k e, ap (λ (i : ℕ). times i T) e)
        | no ne ↦ omega (arith, grown-times new j T missing, same_none j k ne, w.sound.once j a b)
      ]

  settled : Resettled t₁ t₂ c (grown new T)
  unfolding hung
  settled =
      recounted-settled wrote.sized (word t count_word + 1) (word t change_word + 1)
      (omega (arith, grown-size new T missing, w.sound.count))
      (omega (arith, grown-size new T missing))
      once'
      (grown-ordered new T missing w.sound.order)
      (λ j i b z. let ne : j ≡ k → ⊥ = λ q. omega (arith, grown-times new j T missing, same-one j k q) in
      let none-there : times j T ≡ 0 = omega (arith, grown-times new j T missing) in
      rw (stays j i ne none-there) (w.sound.rest j i b none-there))

  pub posted-whole : Spelled t₂ c (grown new T)
  posted-whole = settles header₀ cut-root settled

  pub posted-sized : Sized t₂ c
  posted-sized = settled.sized

  pub posted-change : word t₂ change_word ≡ word t change_word + 1
  unfolding hung
  posted-change = recounted-change wrote.sized (word t count_word + 1) (word t change_word + 1)
