-- One step of `stand` (document 01, "The program").
use Rattle.std.specs.Prelude.{ℕ, List, Option, Some, None}
use Rattle.scope.specs.Answers.{refusal}
use Rattle.scope.specs.Calls.{Call, answer_of, table_of}
use Rattle.scope.specs.Calls as calls
use Rattle.scope.specs.declared.answer.Refusal.TheVariants as refusals
use Rattle.text_lines.specs.Form.{command_of}
use Rattle.text_lines.specs.declared.command.Command.{Command}
use Rattle.text_lines.specs.declared.command.Command.TheVariants.{Post, Amend, Drop, Find, Rank, Total, Worth}
use Rattle.text_lines.specs.declared.command.Command.TheVariants.{Fire, Tidy, List as Listing}
use Rattle.text_print.specs.Line.{answer_line}
use Rattle.text_list.specs.List.{list_text}
use Rattle.stand_desk.specs.declared.Reply.{Reply}
use Rattle.stand_desk.specs.declared.Reply.TheVariants.{Say, List as ListIt}

-- what a command wishes: a call of the library, the list, or nothing that can be read
pub data Wish : Type 0 where
  call : Call → Wish
  list : Wish
  nothing : Wish

unfoldable pub wished : Command → Wish
wished (Post key pieces state) = call (calls.Post key pieces state)
wished (Amend key pieces state) = call (calls.Amend key pieces state)
wished (Drop key) = call (calls.Drop key)
wished (Find key) = call (calls.Find key)
wished (Rank r) = call (calls.Rank r)
wished (Total key) = call (calls.Total key)
wished Worth = call calls.Worth
wished (Fire rule holder side) = call (calls.Fire rule holder side)
wished (Tidy budget) = call (calls.Tidy budget)
wished Listing = list

abbrev pub wish_of : Option Command → Wish
wish_of (Some x) = wished x
wish_of None = nothing

-- what is to be printed, and the table afterwards
unfoldable pub reply_of : List ℕ → Wish → Reply
reply_of t (call x) = Say (answer_of x t)
reply_of t list = ListIt
reply_of t nothing = Say (refusal refusals.Unreadable)

unfoldable pub table_after : List ℕ → Wish → List ℕ
table_after t (call x) = table_of x t
table_after t list = t
table_after t nothing = t

unfoldable pub reply_text : List ℕ → Reply → List ℕ
reply_text t (Say a) = answer_line a
reply_text t ListIt = list_text t

-- a line: what it prints, and the table after it
unfoldable pub step_table : List ℕ → List ℕ → List ℕ
step_table t line = table_after t (wish_of (command_of line))

unfoldable pub step_text : List ℕ → List ℕ → List ℕ
step_text t line = reply_text (step_table t line) (reply_of t (wish_of (command_of line)))
