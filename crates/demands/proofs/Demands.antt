-- IS IT PROVED? The plant's three demands, each one theorem. `Whole t c` says that t is a sound table of c slots: those on
-- which check answers 0, and no others (`check-whole` and `check-sounds` in Open). Assumes nothing.
use Prim.Native.Nat.{ℕ}
use mathlib.Core.List.{List}
use Rattle.scope.specs.Calls.{Call}
use Rattle.spelling.specs.Whole.{Whole}
use Rattle.demands.specs.Fires.{fires}
use Rattle.demands.specs.Ledgers.{ledger_of}
use Rattle.demands.specs.Demands.{Demand1, Demand2, Demand3}
use Rattle.ledger.proofs.Neighbours.{neighbours-are}
use Rattle.demands.proofs.Open.{worth-told, rest-exactly}
use Rattle.demands.proofs.First.Listed.{code-listed, refused-zeros, lacks-passed, refused-words}
use Rattle.demands.proofs.Second.Entries.{ledger-sorted, ledger-has, ledger-count}
use Rattle.demands.proofs.Second.Sequence.{calls-ledger}
use Rattle.demands.proofs.Second.Exact.{fire-exact}
use Rattle.demands.proofs.Second.Order.{stated-order}
use Rattle.demands.proofs.Second.Tidying.{tidy-is, tidy-rests}
use Rattle.demands.proofs.Third.Falls.{worth-falls-at, spends}
use Rattle.demands.proofs.Third.Rest.{rest-balanced, walk-16, find-16}
use Rattle.demands.proofs.Third.Tidied.{worth-most}

pub demand-1 : (x : Call) (t : List ℕ) → Demand1 x t
demand-1 x t =
    record {
      numbered = code-listed x t;
      zeros = refused-zeros x t;
      for_key = lacks-passed x t;
      unchanged = refused-words x t;
    }

pub demand-2 : {t : List ℕ} {c : ℕ} → Whole t c → Demand2 t c
demand-2 w =
    record {
      sorted = ledger-sorted w;
      has = ledger-has w;
      count = ledger-count w;
      as_list = calls-ledger w;
      nearest = λ key. neighbours-are key (ledger_of _ _).entries (ledger-sorted w);
      fire = fire-exact w;
      order = stated-order w;
      tidy = tidy-is w;
      more = tidy-rests w;
    }

pub demand-3 : {t : List ℕ} {c : ℕ} → Whole t c → Demand3 t c
demand-3 w =
    record {
      stays = λ xs. (calls-ledger w (fires xs)).whole;
      falls = worth-falls-at w;
      no_more = spends w;
      told = worth-told w;
      bounded = worth-most w;
      at_rest = rest-exactly w;
      level = rest-balanced w;
      short = walk-16 w;
      find = find-16 w;
    }
