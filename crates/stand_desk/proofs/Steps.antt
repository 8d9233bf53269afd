-- A command carried out, and a line. Assumes nothing.
use Prim.Native.Nat.{ℕ}
use mathlib.Core.Path.{◌≡◌, ap, ◌∙◌}
use mathlib.Core.List.{List}
use native.Mathlib.Omega.{arith}
use lib.ListN.{length}
use Rattle.std.specs.Prelude.{Option, Some}
use Rattle.scope.specs.Calls.{Call, answer_of, table_of}
use Rattle.scope.specs.declared.answer.Answer.{Answer}
use Rattle.text_lines.specs.Form.{command_of}
use Rattle.text_lines.specs.declared.command.Command.{Command}
use Rattle.text_print.specs.Put.{PutIn}
use Rattle.text_list.specs.List.{list_room}
use Rattle.stand_desk.specs.declared.Reply.{Reply}
use Rattle.stand_desk.specs.declared.Reply.TheVariants.{Say}
use Rattle.stand_desk.specs.Step.{Wish, call, wished, wish_of, reply_of, table_after, reply_text, step_table, step_text}

-- what a command wishes that a line asks for
pub asks : {x : Option Command} {y z : Command} → x ≡ Some y → y ≡ z → wish_of x ≡ wished z
asks p q = ap wish_of p ∙ ap wished q

-- a call of the library that did what it promises
pub done : (t : List ℕ) (w : Wish) (x : Call) {a : Answer} {u : List ℕ} → w ≡ call x
    → (a ≡ answer_of x t) × (u ≡ table_of x t) → (Say a ≡ reply_of t w) × (u ≡ table_after t w)
unfolding reply_of table_after
done t w x e p = rw e (ap Say p.0, p.1)

-- what was put is what the line prints
pub step-printed : {old new : List ℕ} {at n : ℕ} (t u line : List ℕ) (command : Option Command) (r : Reply)
    → command ≡ command_of line → r ≡ reply_of t (wish_of command) → u ≡ table_after t (wish_of command)
    → length u ≡ length t → PutIn old at (reply_text u r) new n (list_room (length u))
    → PutIn old at (step_text t line) new n (list_room (length t))
unfolding step_text step_table
step-printed t u line command r e p q l x =
    let wish = wish_of (command_of line) in
    let z : reply_text u r ≡ reply_text (table_after t wish) (reply_of t wish) = cc in
    record { put = rw z at x.put; within = omega (arith, x.within, l) }

pub left : (t u line : List ℕ) (command : Option Command) → command ≡ command_of line → u ≡ table_after t (wish_of command)
    → u ≡ step_table t line
unfolding step_table
left t u line command e q = cc
