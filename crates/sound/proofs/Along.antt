-- The scan on its way down the right sides: what is left to scan gives what the whole gives. Assumes nothing.
use Prim.Native.Nat.{ℕ, ◌-◌, ◌≤◌, ◌<◌}
use mathlib.Core.Path.{◌≡◌}
use mathlib.Core.List.{List}
use native.Mathlib.Omega.{arith}
use Rattle.sound.specs.Scan.{Scanning, Welcome, EnteredSlot, Good, Scanned}
use Rattle.sound.proofs.Steps.{at_end, room-spent, slot-refused, left_in, right-in, left-refused, right-part}
use Rattle.std.specs.Prelude.{Option, Some, None}

-- the scan of x has come to slot `at`, with these marks, this lower bound, and so few slots that may still be reached
pub record Along (t m₀ : List ℕ) (c more x low high : ℕ) (m : List ℕ) (at from few : ℕ) : Type 0 where
  pub there : 1 ≤ at
  pub scanning : Scanning t c few at
  pub fewer : few ≤ more
  pub whole : (m' : List ℕ) (r : Option ℕ) → Scanned t m m' c few at from high r → Scanned t m₀ m' c more x low high r

module _ {t m₀ : List ℕ} {c more x low high : ℕ} where
  pub along-start : 1 ≤ x → Scanning t c more x → Along t m₀ c more x low high m₀ x low more
  along-start p s = record { there = p; scanning = s; fewer = omega arith; whole = λ m' r d. d }

  module _ {m : List ℕ} {at from few : ℕ} (v : Along t m₀ c more x low high m at from few) where
    place : at < 4096
    place = omega (arith, v.scanning.looking)

    pub along-spent : (m' : List ℕ) → few ≡ 0 → Scanned t m₀ m' c more x low high None
    along-spent m' e = v.whole m' None (room-spent t m c at from high few v.there place e)

    pub along-refused : (m' : List ℕ) → (Welcome t m c at from high → ⊥)
        → Scanned t m₀ m' c more x low high None
    along-refused m' d = v.whole m' None (slot-refused t m c at from high few v.there place d)

    -- the slot was entered
    module _ {m₁ : List ℕ} {l r k : ℕ} (o : EnteredSlot t m m₁ c at from high l r k) where
      pub along-left : Scanning t c (few - 1) l
      along-left = record {
        looking = record { sized = v.scanning.looking.sized; link = left_in o };
        few = omega (arith, v.scanning.few);
      }

      -- and its left side scanned
      module _ (m₂ : List ℕ) where
        pub along-spoiled : (m' : List ℕ) → Scanned t m₁ m₂ c (few - 1) l from k None → Scanned t m₀ m' c more x low high None
        along-spoiled m' s = v.whole m' None (left-refused t m c at from high few v.there place m₁ l r k o s)

        module _ (n : ℕ) (good : Good t m₁ m₂ c (few - 1) l from k n) (some : few ≡ 0 → ⊥) where
          right-scan : Scanning t c n r
          right-scan = record {
            looking = record { sized = v.scanning.looking.sized; link = right-in o };
            few = omega (arith, v.scanning.few, good.used);
          }

          on : (m' : List ℕ) (res : Option ℕ) → Scanned t m₂ m' c n r k high res → Scanned t m₀ m' c more x low high res
          on m' res d =
              v.whole m' res
              (right-part t m c at from high few v.there place m₁ l r k o m₂ m' n good (omega (arith, some)) res d)

          pub along-less : n < few
          along-less = omega (arith, good.used, some)

          -- nothing hangs on its right
          pub along-end : r ≡ 0 → Scanned t m₀ m₂ c more x low high (Some n)
          along-end e = on m₂ (Some n) (at_end t m₂ c r k high n e)

          pub along-right : (r ≡ 0 → ⊥) → Along t m₀ c more x low high m₂ r k n
          along-right e = record {
            there = omega (arith, e);
            scanning = right-scan;
            fewer = omega (arith, v.fewer, good.used);
            whole = on;
          }
