-- The loop of tidy under way: what is left to fire gives what the whole gives, a law for each way. Assumes nothing.
use Prim.Native.Nat.{ℕ, zero, suc, ◌+◌, ◌-◌, ◌≤◌}
use mathlib.Core.Path.{◌≡◌, refl, sym, ◌∙◌, ap}
use mathlib.Core.Bool.{Bool, true, false}
use mathlib.Core.List.{List}
use native.Mathlib.Omega.{arith}
use lib.ListN.{length}
use Rattle.scope.proofs.Bools.{by_bool, never}
use Rattle.scope.specs.Tidy.{next_of, quiet, fired_at, tidy_from, Tidied}
use Rattle.spelling.specs.Ready.{Sized}
use Rattle.spelling.specs.Whole.{Whole}
use Rattle.bridge.proofs.Resting.Quiets.{quiet-tree}
use Rattle.bridge.proofs.Resting.Rests.{none-due, quiet-words, next-none}
use Rattle.tidy_holders.proofs.Leaving.DueNodes.{fired-is}
use Rattle.tidy.specs.Coming.{Running, NextAt}
use Rattle.tidy.specs.Firing.{ToFire, AfterFiring}
use Rattle.tidy.specs.Run.{Ended}
use Rattle.tidy.specs.declared.notes.Notes.{Notes}
use Rattle.tidy.specs.declared.scan.Coming.{Coming}
use Rattle.std.specs.Prelude.{Some, None}

-- `made` of the budget were fired, and t is the table now, with its notes and its agenda
pub record UnderWay (t₀ : List ℕ) (c budget : ℕ) (t : List ℕ) (n : Notes) (made : ℕ) : Type 0 where
  pub left : tidy_from (budget - made) c t made ≡ tidy_from budget c t₀ 0
  pub within : made ≤ budget
  pub running : Running t c n
  pub one_size : length t ≡ length t₀

module _ (c : ℕ) (t : List ℕ) where
  spent : (n k : ℕ) → n ≡ 0 → tidy_from n c t k ≡ record { fired = k; words = t }
  unfolding tidy_from
  spent n k e = rw e

  none_left : (n k : ℕ) → next_of t c ≡ None → tidy_from n c t k ≡ record { fired = k; words = t }
  unfolding tidy_from
  none_left zero k e = refl
  none_left (suc n) k e = simp e

  one-fired : (n m k v r : ℕ) → n ≡ suc m → next_of t c ≡ Some (v, r)
      → tidy_from n c t k ≡ tidy_from m c (fired_at t c v r) (k + 1)
  unfolding tidy_from
  one-fired n m k v r z e = rw z (simp e)

-- tables of c slots have one length
same_length : {t u : List ℕ} {c : ℕ} → Sized t c → Sized u c → length u ≡ length t
same_length s z = omega (arith, s.room, z.room)

-- WHERE NO RULE IS DUE NO GUARD HOLDS, and where one is some does
module _ {t : List ℕ} {c : ℕ} (w : Whole t c) where
  rests : next_of t c ≡ None → true ≡ quiet t c
  rests e = sym (quiet-words w (none-due w e))

  goes_on : {v n : ℕ} → next_of t c ≡ Some (v, n) → false ≡ quiet t c
  goes_on e =
      by_bool (quiet t c)
      (λ q. let z = next-none w (quiet-tree w q) in never cc)
      (λ q. sym q)

module _ {t₀ : List ℕ} {c budget : ℕ} {t : List ℕ} {n : Notes} {made : ℕ} (g : UnderWay t₀ c budget t n made) where
  ended : {rest : Bool} → rest ≡ quiet t c
      → tidy_from (budget - made) c t made ≡ record { fired = made; words = t }
      → Ended t₀ c budget (record { made = made; quiet = rest }) t
  ended m e =
      let q = sym e ∙ g.left in
      record {
        count = ap (λ (x : Tidied). x.fired) q;
        words = ap (λ (x : Tidied). x.words) q;
        within = g.within;
        rests = m;
      }

  pub going-none : next_of t c ≡ None → Ended t₀ c budget (record { made = made; quiet = true }) t
  going-none e = ended (rests g.running.whole e) (none_left c t (budget - made) made e)

  module _ (n₁ : Notes) {x : Coming} (same : n₁.holders ≡ n.holders) (f : NextAt t c n₁.agenda x) where
    pub going-spent : made ≡ budget → Ended t₀ c budget (record { made = made; quiet = false }) t
    going-spent e = ended (goes_on g.running.whole f.next) (spent c t (budget - made) made (omega (arith, e)))

    pub going-fire : ToFire t c n₁ x.rule x.nodes
    going-fire = record {
      running = record { whole = g.running.whole; holds = rw same g.running.holds; listed = f.listed };
      slot = x.slot;
      number = x.number;
      due = f.due;
      rule = f.rule;
      nodes = f.nodes;
    }

    pub going_on : (made ≡ budget → ⊥) → {t' : List ℕ} {n' : Notes} → AfterFiring t c x.rule x.nodes t' n'
        → UnderWay t₀ c budget t' n' (made + 1)
    going_on ne k =
        let w = g.running.whole in
        let is : _ ≡ fired_at t c x.slot x.number = rw (f.rule, f.nodes) at k.is ∙ sym (fired-is w f.due) in
        record {
          left = ap (λ (y : List ℕ). tidy_from (budget - (made + 1)) c y (made + 1)) is
              ∙ sym (one-fired c t (budget - made) (budget - (made + 1)) made x.slot x.number (omega (arith, ne, g.within))
              f.next)
              ∙ g.left;
          within = omega (arith, ne, g.within);
          running = k.running;
          one_size = same_length g.running.whole.sized k.running.whole.sized ∙ g.one_size;
        }
