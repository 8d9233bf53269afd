-- On a sound table a firing on words is that firing on the tree, and the table is sound again. Assumes nothing.
use Prim.Native.Nat.{ℕ, ◌≤◌}
use mathlib.Core.Path.{◌≡◌, refl, sym, ◌∙◌}
use mathlib.Core.Bool.{true, ◌&&◌}
use mathlib.Core.Option.{Option, none, some}
use mathlib.Core.List.{List}
use native.Mathlib.Omega.{arith}
use lib.Dec.{leb}
use borrow.Author.Tests.{le-leb, ne_eqb}
use Rattle.scope.proofs.Bools.{and_r}
use Rattle.scope.specs.Numbers.{root_link, most_height}
use Rattle.scope.specs.Table.{word, root_word, count_word, zero_word, slot_at, link_at}
use Rattle.scope.specs.Fit.{header_ok}
use Rattle.scope.specs.Tree.{Tree, times, in_order}
use Rattle.scope.specs.Sound.{Sound}
use Rattle.scope.specs.Fire.{aim}
use Rattle.scope.specs.declared.rule.Rule.{Rule}
use Rattle.scope.specs.declared.side.Side.{Side}
use Rattle.scope.specs.declared.side.Link.{Link}
use Rattle.scope.specs.declared.answer.Refusal.TheVariants.{GuardFails}
use Rattle.spelling.proofs.Slots.{blank-state}
use Rattle.spelling.proofs.Laws.{header-root, header-count}
use Rattle.spelling.specs.Whole.{Whole}
use Rattle.spelling.proofs.Frame.{none-at-0}
use Rattle.spelling.proofs.Once.{once-all}
use Rattle.spelling.proofs.Spell.{tree-in}
use Rattle.tree.specs.Rewrite.{fire_at, accept_at, within}
use Rattle.tree.proofs.Firing.Keeps.{keeps, times-kept, size-kept}
use Rattle.tree.proofs.Firing.Order.{ordered-kept}
use Rattle.bridge.specs.Below.{Hangs, ChangedBelow}
use Rattle.bridge.specs.Alike.{Alike}
use Rattle.bridge.specs.Leads.{Leads}
use Rattle.bridge.specs.Fired.{Fired}
use Rattle.bridge.proofs.Firing.Along.{same-along}
use Rattle.std.specs.Prelude.{Result, Ok, Err}
use Rattle.scope.specs.declared.answer.Refusal.{Refusal}
use Rattle.scope.specs.declared.outcome.Nodes.{Nodes}

-- a good header stays one with another root in range
pub new-header : (t t' : List ℕ) (c : ℕ) → header_ok c t ≡ true → word t' root_word ≤ c → word t' count_word ≤ c
    → word t' zero_word ≡ word t zero_word → header_ok c t' ≡ true
unfolding header_ok
new-header t t' c e r n z =
    let zero = and_r (leb (word t root_word) c && leb (word t count_word) c) _ e in
    rw (le-leb (word t' root_word) c r, le-leb (word t' count_word) c n, z, zero) refl

module _ {t : List ℕ} {c : ℕ} (w : Whole t c) where
  abbrev T : Tree
  T = w.sound.tree

  -- the whole tree hangs at the root's link
  pub hangs-root : Hangs t c root_link T
  unfolding link_at
  hangs-root =
      record {
        sized = w.sized;
        holder = omega arith;
        most = header-root c t w.sound.header;
        spells = w.sound.reached;
        once = once-all t c w.sound;
        apart = none-at-0 t c (word t root_word) T w.sound.reached;
      }

  -- a change below the root's link that keeps the records keeps the table sound
  pub still-sound : {t' : List ℕ} {T' : Tree} → ChangedBelow t t' c root_link T T' → in_order T' ≡ in_order T → Fired t t' c T T'
  still-sound {t'} {T'} b e =
      let top : word t' root_word ≡ b.top = b.root in
      let s : Sound t' c = record {
        header = new-header t t' c w.sound.header (rw top b.most)
            (rw (b.head 1 (omega arith) (omega arith)) (header-count c t w.sound.header)) (b.head 3 (omega arith) (omega arith));
        tree = T';
        reached = rw top b.spells;
        once = λ k i j. rw (times-kept T T' e k) (w.sound.once k i j);
        count = size-kept T T' e ∙ w.sound.count ∙ sym (b.head 1 (omega arith) (omega arith));
        order = ordered-kept T T' e w.sound.order;
        rest = λ k i j z. rw (stay k i (sym (times-kept T T' e k) ∙ z)) (w.sound.rest k i j (sym (times-kept T T' e k) ∙ z));
      } in
      record { whole = record { sized = b.sized; sound = s }; tree = tree-in t' c s; records = e; head = b.head; free = stay }
    where
      stay : (k : ℕ) → 1 ≤ k → times k T ≡ 0 → slot_at t' k ≡ slot_at t k
      stay k i z = b.slots k i z ∙ rw (ne_eqb k 0 (λ q. omega arith))

  -- what comes out below the root leaves the table sound
  sound-alike : (r : Rule) (way : List Side) (o : Option Tree) (f : Result (Rule × Nodes) Refusal) → accept_at way r T ≡ o
      → Alike t (λ T' t'. ChangedBelow t t' c root_link T T') (fire_at way r T) o f
      → Alike t (λ T' t'. Fired t t' c T T') (fire_at way r T) o f
  sound-alike r way none (Err why) e a = a
  sound-alike r way none (Ok (q, n)) e a = a
  sound-alike r way (some T') (Err why) e a = a
  sound-alike r way (some T') (Ok (q, n)) e a = still-sound a (keeps (within most_height) way r T T' e).records

  -- ON A SOUND TABLE, at the link that a way leads to: accepted on words exactly if on the tree, and then they spell what comes of it
  pub same_way : (r : Rule) (l : Link) (p : Leads t root_link T l)
      → Alike t (λ T' t'. Fired t t' c T T') (fire_at p.way r T) (accept_at p.way r T) (aim t c r l)
  same_way r l p =
      rw (← p.ends)
      (sound-alike r p.way (accept_at p.way r T) _ refl
      (same-along r p.way root_link T p.tree hangs-root refl p.there))

  -- a free holder: nothing is fired
  pub free-holder : (r : Rule) (l : Link) → 1 ≤ l.holder → l.holder ≤ c → times l.holder T ≡ 0
      → aim t c r l ≡ Err GuardFails
  unfolding aim
  free-holder r l i j z =
      let b = w.sound.rest l.holder i j z in
      let state = blank-state (slot_at t l.holder) b in
      rw (ne_eqb l.holder 0 (λ q. omega arith), state) refl
