-- A written word: where it stands, and that the table keeps its size. Assumes nothing.
use Prim.Native.Nat.{ℕ, ◌≤◌}
use mathlib.Core.Path.{◌≡◌, ◌∙◌, ap}
use mathlib.Core.List.{List}
use native.Mathlib.Omega.{arith}
use borrow.Author.Tests.{ne_eqb}
use lib.ListN.{length, set, length-set}
use Rattle.scope.specs.Table.{register_at}
use Rattle.scope.specs.Edits.{register_on, place_of}
use Rattle.scope.specs.declared.side.Side.{Side}
use Rattle.spelling.specs.Ready.{Sized}
use Rattle.fire_act.specs.Wrote.{Kept}

-- a register of a slot stands among its words
pub register-at : (k : ℕ) (s : Side) → 1 ≤ k → place_of k (register_on s) ≡ register_at k s
register-at k s h = simp (ne_eqb k 0 (omega arith))

-- a table of another content and the same length
pub same_size : {t u : List ℕ} {c : ℕ} → Sized t c → length u ≡ length t → Sized u c
same_size s e = record { room = omega arith; some = s.some; most = s.most }

pub kept_set : (t : List ℕ) (c i x : ℕ) {u : List ℕ} → Sized t c → u ≡ set t i x → Kept c (set t i x) u
kept_set t c i x s e = record { is = e; sized = same_size s (ap length e ∙ length-set t i x) }
