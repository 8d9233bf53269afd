-- The writes of a drop, one after the other, give the defined answer and table. Assumes nothing.
use Prim.Native.Nat.{ℕ, ◌-◌}
use mathlib.Core.Path.{◌≡◌, sym}
use mathlib.Core.List.{List}
use Rattle.scope.specs.Table.{word, count_word, change_word, slot_at, with_slot}
use Rattle.scope.specs.Table.{zero_slot}
use Rattle.scope.specs.Drop.{relinked, with_record_of, dropped}
use Rattle.scope.specs.declared.slot.Slot.{Slot}
use Rattle.scope.specs.declared.side.Link.{Link}
use Rattle.scope.specs.declared.answer.Answer.{Answer}
use Rattle.scope.specs.declared.outcome.Dropping.TheVariants.{Lift, Replace}
use Rattle.gate.specs.Ends.{Does, settled}
use Rattle.std.specs.Prelude.{Ok}

-- count and change were read from t
module _ (t : List ℕ) (slot : ℕ) (link : Link) {y u : List ℕ} {count change : ℕ} {a : Answer}
    (counted : count ≡ word t count_word) (numbered : change ≡ word t change_word) where
  -- y is t with the son at the record's link
  pub lifted_by : (son : ℕ) → y ≡ relinked t link son
      → Does (settled (with_slot y slot zero_slot) (count - 1) change slot) a u
      → Does (dropped t (Ok (Lift slot link son))) a u
  unfolding dropped
  lifted_by son q done = simp (sym q, sym counted, sym numbered) done

  -- m is the least, x is t with its record in the slot, y is x with its right son at its link
  pub replaced-by : (least : ℕ) {m : Slot} {x : List ℕ} → m ≡ slot_at t least
      → x ≡ with_slot t slot (with_record_of (slot_at t slot) m) → y ≡ relinked x link m.right
      → Does (settled (with_slot y least zero_slot) (count - 1) change least) a u
      → Does (dropped t (Ok (Replace slot least link))) a u
  unfolding dropped
  replaced-by least e p q done = simp (sym e, sym p, sym q, sym counted, sym numbered) done
