-- Demand 2: any list of calls on a sound table is that list on the ledger. Assumes nothing.
use Prim.Native.Nat.{ℕ}
use mathlib.Core.Path.{◌≡◌, refl, ◌∙◌, ap}
use mathlib.Core.Option.{some}
use mathlib.Core.List.{List, [], ◌∷◌}
use Rattle.scope.specs.Calls.{Call, Start, Check, Find, Post, Amend, Drop, Rank, Total, Worth, Fire, Tidy, table_of, after}
use Rattle.scope.specs.declared.answer.Answer.{Answer}
use Rattle.spelling.specs.Ready.{Sized}
use Rattle.spelling.specs.Whole.{Whole}
use Rattle.ledger.specs.Sequence.{plain, ledger_answer, ledger_after, ledger_answers, ledger_after_all}
use Rattle.demands.specs.Sequence.{apart, all_apart, SameCall, SameCalls}
use Rattle.demands.proofs.Open.{check-whole}
use Rattle.demands.proofs.Second.Answers.{find-ledger, rank-ledger, total-ledger}
use Rattle.demands.proofs.Second.Ranks.{rank-record}
use Rattle.demands.proofs.Second.Posting.{post-ledger}
use Rattle.demands.proofs.Second.Amending.{amend-ledger}
use Rattle.demands.proofs.Second.Dropping.{drop-ledger}
use Rattle.demands.proofs.Second.Firing.{fire-ledger, start-ledger}
use Rattle.demands.proofs.Second.Tidying.{tidy-ledger}

abbrev told : {a b : Answer} → a ≡ b → some (plain a) ≡ some (plain b)
told e = ap (λ (a : Answer). some (plain a)) e

-- start asks for nothing but the length
start-same : {t : List ℕ} {c : ℕ} → Sized t c → SameCall Start t c
unfolding apart ledger_answer ledger_after
start-same z =
    let s = start-ledger z in
    record { answer = told s.answer; whole = s.whole; ledger = s.ledger }

-- one call
pub call-ledger : {t : List ℕ} {c : ℕ} → Whole t c → (x : Call) → SameCall x t c
unfolding apart ledger_answer ledger_after
call-ledger w Start = start-same w.sized
call-ledger w Check = record { answer = told (check-whole w); whole = w; ledger = refl }
call-ledger w (Find key) = record { answer = told (find-ledger w key); whole = w; ledger = refl }
call-ledger w (Post key pieces state) =
    let d = post-ledger w key pieces state in
    record { answer = told d.answer; whole = d.whole; ledger = d.ledger }
call-ledger w (Amend key pieces state) =
    let d = amend-ledger w key pieces state in
    record { answer = told d.answer; whole = d.whole; ledger = d.ledger }
call-ledger w (Drop key) =
    let d = drop-ledger w key in
    record { answer = told d.answer; whole = d.whole; ledger = d.ledger }
call-ledger w (Rank r) =
    record { answer = λ i. some (record { answer = rank-ledger w r i; shows = rank-record w r i }); whole = w; ledger = refl }
call-ledger w (Total K) = record { answer = told (total-ledger w K); whole = w; ledger = refl }
call-ledger w Worth = record { answer = refl; whole = w; ledger = refl }
call-ledger w (Fire rule holder side) =
    let d = fire-ledger w (record { rule = rule; holder = holder; side = side }) in
    record { answer = refl; whole = d.whole; ledger = d.ledger }
call-ledger w (Tidy budget) =
    let d = tidy-ledger w budget in
    record { answer = refl; whole = d.whole; ledger = d.ledger }

-- a call, and then the others
and_then : {t : List ℕ} {c : ℕ} (x : Call) (xs : List Call) → SameCall x t c → SameCalls xs (table_of x t) c
    → SameCalls (x ∷ xs) t c
unfolding all_apart after ledger_answers ledger_after_all
and_then x xs s r =
    record {
      each = rw (s.answer, r.each, s.ledger) refl;
      whole = r.whole;
      ledger = r.ledger ∙ ap (ledger_after_all xs) s.ledger;
    }

-- ANY CALLS from a sound table
pub calls-ledger : {t : List ℕ} {c : ℕ} → Whole t c → (xs : List Call) → SameCalls xs t c
unfolding all_apart after ledger_answers ledger_after_all
calls-ledger {t = t} {c = c} w [] = record { each = refl; whole = w; ledger = refl }
calls-ledger {t = t} {c = c} w (x ∷ xs) =
    let s = call-ledger w x in
    and_then x xs s (calls-ledger {t = table_of x t} {c = c} s.whole xs)

-- ANY CALLS AFTER START, whatever the words were
pub started-ledger : {t : List ℕ} {c : ℕ} → Sized t c → (xs : List Call) → SameCalls (Start ∷ xs) t c
started-ledger z xs =
    let s = start-same z in
    and_then Start xs s (calls-ledger s.whole xs)
