-- The all-zero table is sound. Assumes nothing.
use Prim.Native.Nat.{ℕ, ◌+◌, ◌≤◌, ◌<◌}
use mathlib.Core.Path.{◌≡◌, refl, sym}
use mathlib.Core.Bool.{true}
use mathlib.Core.List.{List}
use native.Mathlib.Omega.{arith}
use lib.ListN.{replicate, get_or-replicate}
use borrow.Author.Tests.{le-leb}
use Rattle.scope.specs.Table.{table_words, root_word, count_word, zero_word, word, base, slot_at}
use Rattle.scope.specs.Fit.{header_ok, blank_slot}
use Rattle.scope.specs.Tree.{leaf, size, times, Ordered}
use Rattle.scope.specs.Sound.{Spells, Sound}
use Rattle.spelling.proofs.Slots.{words-slot}

-- the words of a table of c slots, all 0
abbrev pub zeros : ℕ → List ℕ
zeros c = replicate (table_words c) 0

module _ (c : ℕ) where
  at : (i : ℕ) → i < table_words c → word (zeros c) i ≡ 0
  at i h = get_or-replicate (table_words c) i 0 0 h

  good-header : header_ok c (zeros c) ≡ true
  unfolding header_ok
  good-header = rw (at root_word (omega arith), at count_word (omega arith), at zero_word (omega arith), le-leb 0 c (omega arith)) refl

  blank : (k : ℕ) → 1 ≤ k → k ≤ c → blank_slot (slot_at (zeros c) k) ≡ true
  unfolding blank_slot
  blank k p q = rw (words-slot (zeros c) k (λ f. 0) (λ f h. at (base k + f) (omega arith))) refl

  -- it holds no record
  pub zeros-hold : Sound (zeros c) c
  unfolding Spells times size Ordered
  zeros-hold = record {
    header = good-header;
    tree = leaf;
    reached = at root_word (omega arith);
    once = λ k p q. omega arith;
    count = sym (at count_word (omega arith));
    order = tt;
    rest = λ k p q e. blank k p q;
  }
