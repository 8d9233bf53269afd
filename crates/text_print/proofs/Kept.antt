-- A text that fits stands in the buffer whole, and all bytes before and after it are kept. Assumes nothing.
use Prim.Native.Nat.{ℕ, suc, ◌+◌, ◌-◌, ◌≤◌}
use mathlib.Core.Path.{◌≡◌, refl, sym, ◌∙◌}
use mathlib.Core.List.{List, [], ◌∷◌, ◌++◌, append_assoc}
use native.Mathlib.Omega.{arith}
use borrow.Rule.Slice.PartMut.{put_mid}
use native.Mathlib.Numerals.{add-one}
use lib.ListN.{length, take, drop, set}
use lib.Seq.{sets, sets-eq, drop-drop}
use Rattle.text_print.specs.Put.{laid}

laid-sets : (l : List ℕ) (at : ℕ) (t : List ℕ) → laid l at t ≡ sets l at t
unfolding laid
laid-sets l at [] = refl
laid-sets l at (c ∷ t) = rw (add-one at) (laid-sets (set l at c) (suc at) t)

pub laid-is : (l : List ℕ) (at : ℕ) (t : List ℕ) → at + length t ≤ length l
    → laid l at t ≡ take at l ++ t ++ drop (at + length t) l
laid-is l at t h = laid-sets l at t ∙ sets-eq t l at h

-- a text copied over a part of the buffer is laid there
pub laid-copied : (l : List ℕ) (at : ℕ) (t u : List ℕ) → u ≡ t → at + length t ≤ length l
    → put_mid at (at + length t - at) l u ≡ laid l at t
laid-copied l at t u e h =
    let k : at + length t - at ≡ length t = omega arith in
    rw (e, k, drop-drop (length t) at l) (sym (laid-is l at t h ∙ append_assoc (take at l) t (drop (at + length t) l)))
