-- A link and its number say the same, and what hangs there. Assumes nothing.
use Prim.Native.Nat.{ℕ, ◌+◌, ◌*◌, ◌/◌, ◌%◌, ◌≤◌}
use mathlib.Core.Path.{◌≡◌, refl, sym, ◌∙◌, ap}
use mathlib.Core.Bool.{cond}
use mathlib.Core.List.{List}
use native.Mathlib.Omega.{arith}
use native.Mathlib.Decide.{dec_le}
use lib.Dec.{eqb}
use borrow.Author.Tests.{eqb-true, eqb-false}
use Rattle.scope.proofs.Bools.{by_bool}
use Rattle.scope.specs.Numbers.{root_link}
use Rattle.scope.specs.Table.{word, root_word, slot_at, son, link_at}
use Rattle.scope.specs.declared.side.Side.{Side}
use Rattle.scope.specs.declared.side.Side.TheVariants.{Left, Right}
use Rattle.scope.specs.declared.side.Link.{Link}
use Rattle.spelling.specs.Whole.{Whole}
use Rattle.spelling.proofs.Laws.{link-son}
use Rattle.bridge.proofs.Firing.Along.{hangs-along}
use Rattle.bridge.proofs.Firing.Fires.{hangs-root}
use Rattle.bridge.proofs.Firing.Calls.{LinkIn}
use Rattle.bridge.proofs.Links.Held.{way-to, one_link}
use Rattle.bridge.specs.Leads.{side_number}
use Rattle.tidy_holders.specs.Codes.{link_for, link_number, link_numbered, held_at}
use Rattle.tidy_holders.specs.Holds.{CodeIn}

pub side-most : (s : Side) → side_number s ≤ 1
side-most Left = omega arith
side-most Right = omega arith

link-parts : (k n : ℕ) (s : Side) → n / 2 ≡ k → cond (eqb (n % 2) 0) Left Right ≡ s → link_numbered n ≡ link_for k s
unfolding link_numbered
link-parts k n s a b = rw (a, b) refl

pub code-link : (k : ℕ) (s : Side) → link_numbered (link_number (link_for k s)) ≡ link_for k s
unfolding link_number
code-link k Left =
    let e : (2 * k + 0) % 2 ≡ 0 = omega arith in
    link-parts k (2 * k + 0) Left (omega arith) (rw e refl)
code-link k Right =
    let e : (2 * k + 1) % 2 ≡ 1 = omega arith in
    link-parts k (2 * k + 1) Right (omega arith) (rw e refl)

pub link-code : (q : ℕ) → link_number (link_numbered q) ≡ q
unfolding link_number link_numbered
link-code q =
    by_bool (eqb (q % 2) 0)
    (λ e. rw e (omega (arith, eqb-true (q % 2) 0 e)))
    (λ e. rw e (omega (arith, eqb-false (q % 2) 0 e)))

-- the number of a link of the table, and the link of such a number
pub code_in : {c : ℕ} (l : Link) → LinkIn c l → CodeIn c (link_number l)
unfolding link_number
code_in l i = record {
  most = omega (arith, i.most, side-most l.side);
  proper = λ e. let z : l.holder ≡ 0 = omega (arith, side-most l.side) in
      omega (arith, ap (λ (m : Link). side_number m.side) (i.root z));
}

pub code-link-in : {c : ℕ} (q : ℕ) → CodeIn c q → LinkIn c (link_numbered q)
unfolding link_numbered
code-link-in q i = record {
  most = omega (arith, i.most);
  root = λ e. let z : q ≡ 0 = omega (arith, i.proper) in rw z refl;
}

pub son-in : {c : ℕ} (k : ℕ) (s : Side) → 1 ≤ k → k ≤ c → CodeIn c (link_number (link_for k s))
son-in k s i j = code_in (link_for k s) (record { most = j; root = λ e. absurd (omega arith) })

module _ (t : List ℕ) where
  pub held_link : (l : Link) → held_at t (link_number l) ≡ word t (link_at l)
  unfolding held_at
  held_link l = ap (λ (m : Link). word t (link_at m)) (code-link l.holder l.side)

  pub held-root : held_at t 0 ≡ word t root_word
  unfolding held_at link_numbered link_at
  held-root = refl

  pub held-son : (k : ℕ) (s : Side) → 1 ≤ k → held_at t (link_number (link_for k s)) ≡ son (slot_at t k) s
  held-son k s i = held_link (link_for k s) ∙ link-son t (link_for k s) i

module _ {t : List ℕ} {c : ℕ} (w : Whole t c) where
  -- what hangs at a link is a slot of the table
  pub held-most : (q : ℕ) → CodeIn c q → held_at t q ≤ c
  unfolding held_at
  held-most q i =
      elim (dec_le 1 (held_at t q)) [
        | yes h ↦
            let p = way-to w (link_numbered q) (code-link-in q i) h in
            rw p.ends at (hangs-along p.way root_link w.sound.tree p.tree (hangs-root w) p.there).most
        | no h ↦ omega arith
      ]

  pub one_code : (p q : ℕ) → CodeIn c p → CodeIn c q → held_at t p ≡ held_at t q → 1 ≤ held_at t p → p ≡ q
  unfolding held_at
  one_code p q i j e h =
      let one = one_link w (link_numbered p) (link_numbered q) (code-link-in p i) (code-link-in q j) e h in
      sym (link-code p) ∙ ap link_number one ∙ link-code q
