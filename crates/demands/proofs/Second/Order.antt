-- Demand 2: the stated order is that of the calls that fire accepts. Assumes nothing.
use Prim.Native.Nat.{ℕ}
use mathlib.Core.Path.{◌≡◌, sym, ◌∙◌, ap}
use mathlib.Core.List.{List}
use Rattle.scope.specs.Numbers.{most_height}
use Rattle.scope.specs.Sound.{tree_in}
use Rattle.scope.specs.Answers.{Done}
use Rattle.scope.specs.Tidy.{next_of}
use Rattle.spelling.specs.Whole.{Whole}
use Rattle.tree.proofs.Firing.Steps.{no-tree}
use Rattle.tree.proofs.Rest.Quiet.{accepted-fires}
use Rattle.bridge.proofs.Resting.Rests.{none-due}
use Rattle.demands.specs.Fires.{Trial, tried_on, Accepted}
use Rattle.demands.specs.Tidying.{DueTrial, StatedOrder}
use Rattle.demands.proofs.Open.{own_tree}
use Rattle.demands.proofs.Second.Exact.{fire-exact}
use Rattle.demands.proofs.Second.Due.{accepted-due, first-accepted}
use Rattle.demands.proofs.Second.Tidying.{due-tried, next-fires}
use Rattle.std.specs.Prelude.{None}

module _ {t : List ℕ} {c : ℕ} (w : Whole t c) where
  abbrev code : Done → ℕ
  code d = d.answer.code

  due-accepted : (x : Trial) → DueTrial t c x → Accepted t x
  due-accepted x d = ap (λ (y : Trial). code (tried_on t y)) d.is ∙ ap code (due-tried w d.slot x.rule d.due)

  -- WHERE NOTHING IS NEXT, fire accepts nothing
  none-accepted : next_of t c ≡ None → (x : Trial) → Accepted t x → ⊥
  none-accepted e x z =
      let f = (fire-exact w x).accepts.only_if z in
      let way = f.at.leads.way in
      let r = f.at.named.rule in
      no-tree (sym (none-due (own_tree w) e way r) ∙ accepted-fires most_height way r (tree_in t c) f.tree f.is)

  pub stated-order : StatedOrder t c
  stated-order =
      record {
        due = λ x. record { whenever = due-accepted x; only_if = accepted-due w x };
        taken = λ v n e. ap code (next-fires w v n e);
        first = first-accepted w;
        at_end = none-accepted;
      }
