-- The call fire on a sound table, by its raw numbers. Assumes nothing.
use Prim.Native.Nat.{ℕ, ◌≤◌, ◌/◌, ◌%◌}
use mathlib.Core.Path.{◌≡◌, refl}
use mathlib.Core.Bool.{not, ◌&&◌}
use mathlib.Core.List.{List, []}
use native.Mathlib.Omega.{arith}
use native.Mathlib.Decide.{dec_le, ℕ_discrete}
use lib.ListN.{length}
use lib.Dec.{ltb, eqb}
use borrow.Author.Tests.{eq-eqb, ne_eqb, le-leb, eqb-true, ltb-false}
use Rattle.scope.proofs.Bools.{by_bool, never}
use Rattle.scope.specs.Numbers.{root_link, slots_of, side_of, link_of, known_link, rule_of}
use Rattle.scope.specs.Table.{head_words, slot_words, slots_in}
use Rattle.scope.specs.Tree.{Tree, times}
use Rattle.scope.specs.Fire.{aimed, fire_plan}
use Rattle.scope.specs.declared.rule.Rule.{Rule}
use Rattle.scope.specs.declared.side.Side.{Side}
use Rattle.scope.specs.declared.side.Side.TheVariants.{Left}
use Rattle.scope.specs.declared.side.Link.{Link}
use Rattle.spelling.specs.Ready.{Sized}
use Rattle.spelling.specs.Whole.{Whole}
use Rattle.tree.specs.Place.{subtree}
use Rattle.bridge.specs.Leads.{link_along, Leads}
use Rattle.bridge.specs.Fired.{FireEnds, at_way, no_way}
use Rattle.bridge.proofs.Links.Ways.{leads, leads-holder}
use Rattle.tree.proofs.Firing.Place.{same_none}
use Rattle.bridge.proofs.Firing.Fires.{hangs-root, same_way, free-holder}
use Rattle.std.specs.Prelude.{Option, Some, None}

-- a table of c slots is taken for one
pub sized-slots : {t : List ℕ} {c : ℕ} → Sized t c → slots_in (length t) ≡ Some (record { count = c })
unfolding slots_in slots_of
sized-slots {t} {c} z =
    let a : length t % slot_words ≡ head_words = omega arith in
    let b : length t / slot_words ≡ c = omega arith in
    rw (a, b, ne_eqb c 0 (λ q. omega arith), le-leb c 4095 z.most) refl

-- a link of a table of c slots; slot 0 has only its left
pub record LinkIn (c : ℕ) (l : Link) : Type 0 where
  pub most : l.holder ≤ c
  pub root : l.holder ≡ 0 → l ≡ root_link

side_left : (n : ℕ) (s : Side) → side_of n ≡ Some s → n ≡ 0 → s ≡ Left
unfolding side_of
side_left n s e z = let q = rw z at e in cc

known_in : (c holder n : ℕ) (i : Option Side) (l : Link) → holder ≤ c → side_of n ≡ i
    → known_link holder n i ≡ Some l → LinkIn c l
known_in c holder n None l h e q = never cc
known_in c holder n (Some s) l h e q =
    by_bool (eqb holder 0 && not (eqb n 0))
    (λ p. let x = simp p at q in never cc)
    (λ p. let x = simp p at q in
    let is : record { holder = holder; side = s } ≡ l = cc in
    rw (← is)
    (record {
      most = h;
      root = λ z. let y = rw (eq-eqb holder 0 z) at p in
          by_bool (eqb n 0)
          (λ w. rw (z, side_left n s e (eqb-true n 0 w)) refl)
          (λ w. let v = rw w at y in never cc);
    }))

pub link-in : (c holder side : ℕ) (l : Link) → link_of c holder side ≡ Some l → LinkIn c l
unfolding link_of
link-in c holder side l e =
    by_bool (ltb c holder)
    (λ p. let x = simp p at e in never cc)
    (λ p. known_in c holder side (side_of side) l (omega (arith, ltb-false c holder p)) refl (simp p at e))

module _ {t : List ℕ} {c : ℕ} (w : Whole t c) where
  abbrev T : Tree
  T = w.sound.tree

  root-way : Leads t root_link T root_link
  root-way = record { way = []; tree = T; there = unfold subtree in refl; ends = unfold link_along in refl }

  -- no way leads to a link of a slot that the tree does not have
  none-leads : (l : Link) → 1 ≤ l.holder → times l.holder T ≡ 0 → Leads t root_link T l → ⊥
  none-leads l i z p =
      let h = rw p.ends at (leads-holder t c p.way root_link T p.tree (hangs-root w).spells p.there) in
      omega (arith, same_none l.holder 0 (λ q. omega arith))

  -- A RULE AT ANY LINK of a sound table
  pub fire-ends : (r : Rule) (l : Link) → LinkIn c l → FireEnds t c T r l (aimed t c r l)
  unfolding aimed
  fire-ends r l i =
      rw w.sound.header
      (elim (ℕ_discrete l.holder 0) [
        | yes e ↦ rw (i.root e) (at_way root-way (same_way w r root_link root-way))
        | no ne ↦ elim (dec_le 1 (times l.holder T)) [
          | yes h ↦ let p = leads t c l.holder l.side root_link T (hangs-root w).spells h in at_way p (same_way w r l p)
          | no h ↦ rw (free-holder w r l (omega arith) i.most (omega arith)) (no_way (none-leads l (omega arith) (omega arith)))
        ]
      ])

  -- with numbers that name a rule and a link, it is that rule at that link
  pub plan-is : (rule holder side : ℕ) (r : Rule) (l : Link) → rule_of rule ≡ Some r
      → link_of c holder side ≡ Some l
      → fire_plan t rule holder side ≡ aimed t c r l
  unfolding fire_plan
  plan-is rule holder side r l a b = rw (sized-slots w.sized, a, b) refl
