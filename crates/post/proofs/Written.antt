-- The writes of a post, one after the other, give the defined answer and table. Assumes nothing.
use Prim.Native.Nat.{ℕ, ◌+◌}
use mathlib.Core.Path.{◌≡◌, sym}
use mathlib.Core.List.{List}
use lib.ListN.{set}
use Rattle.scope.specs.Table.{word, count_word, change_word, with_slot, link_at}
use Rattle.scope.specs.Post.{hung, posted}
use Rattle.scope.specs.declared.slot.Slot.{Slot}
use Rattle.scope.specs.declared.side.Link.{Link}
use Rattle.scope.specs.declared.answer.Answer.{Answer}
use Rattle.gate.specs.Ends.{Does, settled}
use Rattle.std.specs.Prelude.{Ok}

-- count and change were read from t, x is t with the leaf, y is x with its link
pub hung-by : (t : List ℕ) (k : ℕ) (link : Link) (new : Slot) {x y u : List ℕ} {count change : ℕ} {a : Answer}
    → count ≡ word t count_word → change ≡ word t change_word
    → x ≡ with_slot t k new → y ≡ set x (link_at link) k
    → Does (settled y (count + 1) change k) a u → Does (posted t new (Ok (record { slot = k; link = link }))) a u
unfolding posted hung
hung-by t k link new n v p q done = simp (sym p, sym q, sym n, sym v) done
