-- What a writer has after several pieces, and what a reader gave: where those bytes are known. Assumes nothing.
use Prim.Native.Nat.{ℕ, ◌+◌, ◌≤◌, ◌<◌}
use mathlib.Core.Path.{◌≡◌, sym, ◌∙◌}
use mathlib.Core.List.{List, ◌++◌, append-nil}
use native.Mathlib.Omega.{arith}
use lib.ListN.{length, take, length-append}
use lib.Seq.{take_all}
use Rattle.std.proofs.Math.Seq.{take-add}
use Rattle.std.specs.Prelude.{None, Some, IfSome, Ok, Err, Result, OnOk}
use Rattle.std.specs.Result.{result_and}
use Rattle.std.specs.declared.option.Option.{Option}
use Rattle.std.specs.Io.KnownBytes.{Appends, Consumes, IsAtEnd}
use Rattle.std.proofs.KnownBytes.{Appends-trans}
use Rattle.stand_shift.specs.Run.{most_input, run_text, AnsweredSo}
use Rattle.stand_shift.proofs.Telling.{ToldSoFar, told-piece, too_long}

-- THE FILLED PART OF THE BUFFER IS WRITTEN BEHIND WHAT WAS HANDED ON BEFORE
pub written-more : (a b c : Option (List ℕ)) {s t u out : List ℕ} {from sent next at : ℕ} → ToldSoFar s t from sent
    → AnsweredSo t s from u out next at → length s ≤ most_input → Appends a b (take sent (run_text s))
    → Appends b c (take at out) → Appends a c (take (sent + at) (run_text s))
written-more a b c {s} {t} {u} {out} {from} {sent} {next} {at} w f h p q =
    rw (take-add sent at (run_text s), sym (told-piece w f h)) (Appends-trans a b c _ _ p q)

-- and at the end all of it
pub written-all : (a b : Option (List ℕ)) (sent : ℕ) (s : List ℕ) → sent ≡ length (run_text s)
    → Appends a b (take sent (run_text s)) → Appends a b (run_text s)
written-all a b sent s e p = rw (take_all sent (run_text s) (omega (arith, e))) at p

-- what holds after two writes that were both made
pub both-made : {T E P Q S : Type 0} (r s : Result T E) → OnOk r P → OnOk s Q → (P → Q → S) → OnOk (result_and r s) S
both-made (Ok x) (Ok y) p q f = f p q
both-made (Ok x) (Err e) p q f = tt
both-made (Err e) s p q f = tt

-- what holds after a write that was made
pub was-made : {T E P : Type 0} {r s : Result T E} {x : T} → s ≡ r → s ≡ Ok x → OnOk r P → P
was-made e o p = rw (sym e ∙ o) at p

-- WHAT WAS READ IS ALL THAT THE READER HAD
pub read-ended : (given left old new : Option (List ℕ)) (s : List ℕ) → Consumes given left s → IsAtEnd left
    → Appends old new (run_text s) → IfSome given (λ xs. Appends old new (run_text xs))
read-ended None left old new s p end q = tt
read-ended (Some xs) None old new s p end q = absurd p
read-ended (Some xs) (Some ys) old new s p end q = rw (p, end, append-nil s) q

-- WHAT WAS READ IS TOO LONG ALREADY: THE ANSWER IS THE SAME, WHATEVER ELSE THE READER HAD
pub read-full : (given left old new : Option (List ℕ)) (s : List ℕ) (k : ℕ) → Consumes given left (take k s) → length s ≤ k
    → most_input < length s → Appends old new (run_text s) → IfSome given (λ xs. Appends old new (run_text xs))
read-full None left old new s k p whole long q = tt
read-full (Some xs) None old new s k p whole long q = absurd p
read-full (Some xs) (Some ys) old new s k p whole long q =
    rw (p, take_all k s whole, too_long (s ++ ys) (omega (arith, long, length-append s ys)), sym (too_long s long)) q
