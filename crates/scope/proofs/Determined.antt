-- A call's promise leaves nothing open: whatever meets it has the same five numbers and the same words. Assumes nothing.
use Prim.Native.Nat.{ℕ}
use mathlib.Core.Path.{◌≡◌, refl, sym, ◌∙◌}
use mathlib.Core.List.{List}
use Rattle.scope.specs.Calls.{Call, Promise, answer_of, table_of}
use Rattle.scope.specs.declared.answer.Answer.{Answer}

module _ (x : Call) (t : List ℕ) where
  -- for each of the eleven calls, any table and any arguments
  pub determined : {r r' : Answer} {u u' : List ℕ} → Promise x t r u → Promise x t r' u' → (r ≡ r') × (u ≡ u')
  determined p q = (p.0 ∙ sym q.0, p.1 ∙ sym q.1)

  -- and it can be met
  pub met : Promise x t (answer_of x t) (table_of x t)
  met = (refl, refl)
