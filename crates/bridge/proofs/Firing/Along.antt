-- At the end of any way: a firing on words is that on the tree, accepted on the one exactly if on the other. Assumes nothing.
use Prim.Native.Nat.{ℕ}
use mathlib.Core.Path.{◌≡◌, refl}
use mathlib.Core.Bool.{true, false, ◌||◌}
use mathlib.Core.Option.{Option, none, some}
use mathlib.Core.List.{List, [], ◌∷◌}
use lib.Dec.{eqb}
use borrow.Author.Tests.{eqb-true}
use Rattle.scope.proofs.Bools.{by_bool, neither}
use Rattle.scope.specs.Table.{word, slot_at, link_at}
use Rattle.scope.specs.Fit.{state_ok, fit_slot}
use Rattle.scope.specs.Tree.{Batch, Tree, leaf, node}
use Rattle.scope.specs.Rules.{pair}
use Rattle.scope.specs.Fire.{aim, aim_v}
use Rattle.scope.specs.declared.rule.Pair.{Pair}
use Rattle.scope.specs.declared.rule.Rule.{Rule}
use Rattle.scope.specs.declared.side.Side.{Side}
use Rattle.scope.specs.declared.side.Side.TheVariants.{Left, Right}
use Rattle.scope.specs.declared.side.Link.{Link}
use Rattle.scope.specs.declared.answer.Refusal.{Refusal}
use Rattle.spelling.proofs.Laws.{fits}
use Rattle.tree.specs.Rewrite.{mk, over_near, fire_at, accept_at, rewrite_at}
use Rattle.tree.specs.Place.{subtree}
use Rattle.tree.proofs.Firing.Steps.{on-top, top-is}
use Rattle.bridge.specs.Below.{Hangs, ChangedBelow, Cut}
use Rattle.bridge.specs.Alike.{Unmet, guard_fails, too_high, Alike}
use Rattle.bridge.specs.Leads.{link_along}
use Rattle.tree.specs.Seek.{route, end_of, at_key}
use Rattle.tree.proofs.Keys.Keyed.{by_key}
use Rattle.bridge.proofs.Firing.Aims.{same_at}
use Rattle.bridge.proofs.Links.Above.{hangs-down, holder-fit, below-cut, above-cut, changed-above}
use Rattle.std.specs.Prelude.{Result, Ok, Err}
use Rattle.scope.specs.declared.outcome.Nodes.{Nodes}

-- the holder of a link is a fit slot, or it is the root's link
abbrev pub Held : List ℕ → ℕ → Link → Type 0
Held t c l = (eqb l.holder 0 || fit_slot c (slot_at t l.holder)) ≡ true

pub some-state : (x : ℕ) → state_ok x ≡ true → eqb x 0 ≡ false
unfolding state_ok
some-state x e = by_bool (eqb x 0) (λ p. neither e (rw (eqb-true x 0 p) refl)) (λ p. p)

-- such a holder stops no firing
aim-held : (t : List ℕ) (c : ℕ) (r : Rule) (l : Link) → Held t c l → aim t c r l ≡ aim_v t c r l
unfolding aim
aim-held t c r l e =
    by_bool (eqb l.holder 0)
    (λ p. simp p)
    (λ p. let f : fit_slot c (slot_at t l.holder) ≡ true = simp p at e in
    simp (p, f, some-state _ (fits c (slot_at t l.holder) f).state))

-- what is alike for a son is so for its node
hung-unmet : (s : Side) (d : Batch) (p : Pair) (far : Tree) {g : Option Tree} {why : Refusal} → Unmet g why
    → Unmet (over_near s d p g far) why
hung-unmet s d p far guard_fails = guard_fails
hung-unmet s d p far too_high = too_high

hung-alike : (t : List ℕ) (Q R : Tree → List ℕ → Type 0) (s : Side) (d : Batch) (p : Pair) (far : Tree) (g o : Option Tree) (f : Result (Rule × Nodes) Refusal)
    → ((near : Tree) (t' : List ℕ) → Q near t' → R (mk s d p near far) t') → Alike t Q g o f
    → Alike t R (over_near s d p g far) (over_near s d p o far) f
hung-alike t Q R s d p far g none (Err why) up a = hung-unmet s d p far a
hung-alike t Q R s d p far g none (Ok (r, n)) up a = a
hung-alike t Q R s d p far g (some near) (Err why) up a = a
hung-alike t Q R s d p far g (some near) (Ok (r, n)) up a = up near _ a

-- ALONG A WAY: on words as on the tree
pub same-along : {t : List ℕ} {c : ℕ} (r : Rule) (way : List Side) (l : Link) (T S : Tree) → Hangs t c l T → Held t c l
    → subtree way T ≡ some S
    → Alike t (λ T' t'. ChangedBelow t t' c l T T') (fire_at way r T) (accept_at way r T) (aim t c r (link_along t way l))
unfolding subtree rewrite_at link_along
same-along {t} {c} r [] l T S h g e = rw (aim-held t c r l g) (same_at t c l r T h)
same-along {t} {c} r (s ∷ way) l T S h g e =
    on-top s T S _ e
    (λ X. Hangs t c l X
    → Alike t (λ T' t'. ChangedBelow t t' c l X T') (fire_at (s ∷ way) r X) (accept_at (s ∷ way) r X) (aim t c r (link_along t (s ∷ way) l)))
    (λ d p near far q k.
    let held : Held t c (record { holder = word t (link_at l); side = s })
    = by_bool (eqb (word t (link_at l)) 0) (λ z. simp z) (λ z. simp z (holder-fit l s d p near far k)) in
    let on : Link = record { holder = word t (link_at l); side = s } in
    simp top-is
    (hung-alike t (λ near' t'. ChangedBelow t t' c on near near') (λ T' t'. ChangedBelow t t' c l (mk s d p near far) T')
    s d p far (fire_at way r near) (accept_at way r near) (aim t c r (link_along t way on))
    (λ near' t' b. changed-above l s d p near far k near' b)
    (same-along r way on near S (hangs-down l s d p near far k) held q)))
    h

-- what hangs at the end of a way
pub hangs-along : {t : List ℕ} {c : ℕ} (way : List Side) (l : Link) (T S : Tree) → Hangs t c l T → subtree way T ≡ some S
    → Hangs t c (link_along t way l) S
unfolding subtree link_along
hangs-along [] l T S h e = let q : T ≡ S = cc in rw (← q) h
hangs-along {t} {c} (s ∷ way) l T S h e =
    on-top s T S _ e (λ X. Hangs t c l X → Hangs t c (link_along t (s ∷ way) l) S)
    (λ d p near far q k. hangs-along way (record { holder = word t (link_at l); side = s }) near S (hangs-down l s d p near far k) q)
    h

-- a change below the link at the end of the way to a key is one below the link where it begins
pub cut-key : {t t' : List ℕ} {c : ℕ} (key : ℕ) (f : Tree → Tree) (T : Tree) (l : Link) → Hangs t c l T
    → Cut t t' c (link_along t (route key T) l) (end_of key T) (f (end_of key T)) → Cut t t' c l T (at_key key f T)
unfolding route end_of at_key link_along
cut-key key f leaf l h b = b
cut-key {t} {t'} {c} key f (node d a b left right) l h cut =
    let on : Side → Link = λ s. record { holder = word t (link_at l); side = s } in
    by_key key f d a b left right
    (λ w E U. Cut t t' c (link_along t w l) E (f E) → Cut t t' c l (node d a b left right) U)
    (λ e k. k)
    (λ e g k. below-cut (above-cut l Left d (pair a b) left right h (at_key key f left)
    (cut-key key f left (on Left) (hangs-down l Left d (pair a b) left right h) k)))
    (λ e g k. below-cut (above-cut l Right d (pair b a) right left h (at_key key f right)
    (cut-key key f right (on Right) (hangs-down l Right d (pair b a) right left h) k)))
    cut
