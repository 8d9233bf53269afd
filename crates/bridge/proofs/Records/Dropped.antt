-- A record taken out of a sound table: it is sound, and spells the tree without that record. Assumes nothing.
use Prim.Native.Nat.{ℕ, suc, ◌+◌, ◌-◌, ◌≤◌}
use mathlib.Core.Path.{◌≡◌, refl}
use mathlib.Core.Bool.{true}
use mathlib.Core.Option.{some}
use mathlib.Core.List.{List}
use native.Mathlib.Omega.{arith}
use native.Mathlib.Decide.{ℕ_discrete}
use lib.Dec.{eqb, ltb}
use Rattle.scope.proofs.Bools.{by_bool}
use Rattle.scope.specs.Numbers.{root_link}
use Rattle.scope.specs.Table.{word, count_word, change_word, slot_at}
use Rattle.scope.specs.Fit.{blank_slot}
use Rattle.scope.specs.Tree.{Batch, Tree, leaf, node, size, times, same, true_height}
use Rattle.scope.specs.Drop.{counted}
use Rattle.scope.specs.declared.side.Link.{Link}
use Rattle.spelling.specs.Ready.{Sized}
use Rattle.spelling.proofs.Laws.{header-count}
use Rattle.spelling.specs.Whole.{Whole}
use Rattle.tree.proofs.Rest.Height.{height-size}
use Rattle.bridge.specs.Below.{Hangs, Cut}
use Rattle.bridge.specs.Leads.{link_along}
use Rattle.tree.specs.Seek.{seek, route, visits, end_of}
use Rattle.tree.specs.Without.{without_top, without_key}
use Rattle.bridge.specs.Planned.{Freed, DropDone}
use Rattle.bridge.specs.Settled.{Spelled}
use Rattle.bridge.proofs.Records.Seeks.{visits-high}
use Rattle.tree.proofs.Firing.Place.{same_none}
use Rattle.bridge.proofs.Firing.Along.{hangs-along, cut-key}
use Rattle.tree.proofs.Keys.Keyed.{end-there, end-found, at-times, at_size, at-ordered}
use Rattle.tree.proofs.Keys.Lowest.{top_below, top_above, top-ordered, top-size}
use Rattle.bridge.proofs.Firing.Fires.{hangs-root}
use Rattle.bridge.proofs.Links.Settles.{settles, root-slots, recounted-sized, recounted-change, recounted-settled}
use Rattle.bridge.proofs.Records.Drops.{planned}

-- the visits of a key and the height of what hangs at its end fit into the height of the tree
end-high : (key : ℕ) (T : Tree) → visits key T + true_height (end_of key T) ≤ suc (true_height T)
unfolding visits end_of true_height
end-high key leaf = omega arith
end-high key (node d a b l r) =
    by_bool (eqb key d.key)
    (λ e. simp e (omega arith))
    (λ e. by_bool (ltb key d.key)
    (λ f. simp (e, f) (omega (arith, end-high key l)))
    (λ f. simp (e, f) (omega (arith, end-high key r))))

module _ {t : List ℕ} {c : ℕ} (w : Whole t c) (key : ℕ) (d : Batch) (found : seek key w.sound.tree ≡ some d) where
  abbrev T : Tree
  T = w.sound.tree

  abbrev E : Tree
  E = end_of key T

  abbrev T' : Tree
  T' = without_key key T

  abbrev l : Link
  l = link_along t (route key T) root_link

  room : size T ≤ c
  room = omega (arith, w.sound.count, header-count c t w.sound.header)

  high : true_height E ≤ suc (c - visits key T)
  high = omega (arith, room, end-high key T, height-size T, visits-high key T)

  -- the plan for the slot that was found
  pub drop-planned : DropDone t c d.slot l (visits key T) E
  unfolding true_height
  drop-planned =
      end-found key T d found
      (λ X. Hangs t c l X → true_height X ≤ suc (c - visits key T) → DropDone t c d.slot l (visits key T) X)
      (λ a b left right h i. planned l (visits key T) d a b left right h (omega arith))
      (hangs-along (route key T) root_link T E (hangs-root w) (end-there key T)) high

  less : size T ≡ suc (size T')
  less =
      omega (
        arith,
        at_size key without_top T,
        end-found key T d found (λ X. size X ≡ suc (size (without_top X))) (λ a b left right. top-size d a b left right),
      )

  pub some-record : 1 ≤ word t count_word
  some-record = omega (arith, less, w.sound.count)

  module _ {t₁ : List ℕ} (k : ℕ) (f : Freed t t₁ c l E k) where
    cut-root : Cut t t₁ c root_link T T'
    cut-root = cut-key key without_top T root_link (hangs-root w) f.cut

    slots : (j : ℕ) → times j T ≡ same j k + times j T'
    slots j = omega (arith, at-times key without_top j T, f.slots j)

    rest : (j : ℕ) → 1 ≤ j → j ≤ c → times j T' ≡ 0 → blank_slot (slot_at t₁ j) ≡ true
    rest j i b z =
        elim (ℕ_discrete j k) [
          | yes e ↦ rw (e, f.blank) (unfold blank_slot in refl)
          | no ne ↦ let none : times j T ≡ 0 = omega (arith, slots j, same_none j k ne) in
              rw (root-slots cut-root j i none) (w.sound.rest j i b none)
        ]

    pub dropped-whole : Spelled (counted t t₁) c T'
    dropped-whole =
        settles w.sound.header cut-root
        (recounted-settled cut-root.sized (word t count_word - 1) (word t change_word + 1)
        (omega (arith, less, w.sound.count)) (omega (arith, less, room))
        (λ j i b. omega (arith, slots j, w.sound.once j i b))
        (at-ordered key without_top top_below top_above top-ordered T w.sound.order) rest)

    pub dropped-sized : Sized (counted t t₁) c
    dropped-sized = recounted-sized cut-root.sized (word t count_word - 1) (word t change_word + 1)

    pub dropped-change : word (counted t t₁) change_word ≡ word t change_word + 1
    dropped-change = recounted-change cut-root.sized (word t count_word - 1) (word t change_word + 1)
