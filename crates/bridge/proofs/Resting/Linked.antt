-- The link that tidy looks up for a slot is the one where the slot hangs. Assumes nothing.
use Prim.Native.Nat.{ℕ, zero, suc, ◌+◌, ◌≤◌, ◌<◌}
use mathlib.Core.Path.{◌≡◌, sym, ◌∙◌}
use mathlib.Core.Bool.{false}
use mathlib.Core.List.{List}
use native.Mathlib.Omega.{arith}
use native.Mathlib.Decide.{ℕ_discrete}
use lib.Dec.{eqb}
use borrow.Author.Tests.{eqb-true, eqb-false}
use Rattle.scope.proofs.Bools.{by_bool}
use Rattle.scope.specs.Numbers.{root_link}
use Rattle.scope.specs.Table.{word, slot_at, son, link_at}
use Rattle.scope.specs.Tidy.{link_from, link_to}
use Rattle.scope.specs.declared.side.Side.{Side}
use Rattle.scope.specs.declared.side.Side.TheVariants.{Left, Right}
use Rattle.scope.specs.declared.side.Link.{Link}
use Rattle.scope.specs.declared.slot.Slot.{Slot}
use Rattle.spelling.specs.Whole.{Whole}
use Rattle.spelling.proofs.Laws.{link-son}
use Rattle.bridge.proofs.Firing.Calls.{LinkIn}
use Rattle.bridge.proofs.Links.Held.{HeldAt, one_link, some-link}

-- what the search among the holders from k up finds
data Sought (t : List ℕ) (v k end : ℕ) : Link → Type 0 where
  found : {l : Link} → 1 ≤ l.holder → l.holder < end → word t (link_at l) ≡ v → Sought t v k end l
  root : ((l : Link) → k ≤ l.holder → l.holder < end → word t (link_at l) ≡ v → ⊥) → Sought t v k end root_link

no-son : (x : Slot) (v : ℕ) → eqb x.left v ≡ false → eqb x.right v ≡ false → (s : Side) → son x s ≡ v → ⊥
no-son x v p q Left = eqb-false x.left v p
no-son x v p q Right = eqb-false x.right v q

later : {t : List ℕ} {v k end : ℕ} {l : Link} → 1 ≤ k → ((s : Side) → son (slot_at t k) s ≡ v → ⊥)
    → Sought t v (k + 1) end l → Sought t v k end l
later i not (found a b e) = found a b e
later {t} {v} {k} i not (root f) =
    root (λ l a b e. elim (ℕ_discrete k l.holder) [
      | yes q ↦ not l.side (rw q (sym (link-son t l (omega arith)) ∙ e))
      | no q ↦ f l (omega arith) b e
    ])

sought : (left : ℕ) (t : List ℕ) (v k : ℕ) → 1 ≤ k → Sought t v k (k + left) (link_from left t v k)
unfolding link_from
sought zero t v k i = root (λ l a b e. omega arith)
sought (suc left) t v k i =
    let on : Side → Link = λ s. record { holder = k; side = s } in
    by_bool (eqb (slot_at t k).left v)
    (λ p. rw p (found i (omega arith) (link-son t (on Left) i ∙ eqb-true _ _ p)))
    (λ p. by_bool (eqb (slot_at t k).right v)
    (λ q. rw (p, q) (found i (omega arith) (link-son t (on Right) i ∙ eqb-true _ _ q)))
    (λ q. let same_end : k + 1 + left ≡ k + suc left = omega arith in
    let on' = rw same_end at (sought left t v (k + 1) (omega arith)) in
    rw (p, q) (later i (no-son (slot_at t k) v p q) on')))

module _ {t : List ℕ} {c : ℕ} (w : Whole t c) where
  found-is : (v : ℕ) (h : HeldAt t c v) → 1 ≤ v → (l : Link) → Sought t v 1 (1 + c) l → l ≡ h.link
  found-is v h i l (found a b e) =
      let in_table : LinkIn c l = record { most = omega arith; root = λ z. absurd (omega arith) } in
      one_link w l h.link in_table h.link_in (e ∙ sym h.is) (rw e i)
  found-is v h i l (root f) =
      elim (ℕ_discrete h.link.holder 0) [
        | yes z ↦ sym (h.link_in.root z)
        | no ne ↦ absurd (f h.link (omega arith) (omega (arith, h.link_in.most)) h.is)
      ]

  -- THE LINK THAT IS LOOKED UP is where the record hangs
  pub link-to : (v : ℕ) → 1 ≤ v → v ≤ c → ((slot_at t v).state ≡ 0 → ⊥)
      → LinkIn c (link_to t c v) × (word t (link_at (link_to t c v)) ≡ v)
  unfolding link_to
  link-to v i j ne =
      let h = some-link w v i j ne in
      let e = found-is v h i (link_to t c v) (sought c t v 1 (omega arith)) in
      (rw e h.link_in, rw e h.is)
