-- The forms of a line, and what a line asks for (document 01, "The program").
use Rattle.std.specs.Prelude.{ℕ, Bool, true, false, cond, List, [], ◌∷◌, ◌++◌, length, ltb, Option, Some, None}
use Rattle.text_fields.specs.Text.{bytes}
use Rattle.text_fields.specs.Read.{begin, word_then, fields_then, end_then}
use Rattle.text_fields.specs.declared.read.Read.{Read}
use Rattle.text_lines.specs.declared.command.Op.{Op}
use Rattle.text_lines.specs.declared.command.Op.TheVariants as op
use Rattle.text_lines.specs.declared.command.Command.{Command}
use Rattle.text_lines.specs.declared.command.Command.TheVariants.{Post, Amend, Drop, Find, Rank, Total, Worth, Fire, Tidy, List as Listing}

-- a form: the name that the line begins with, and the word before each number
pub record Form : Type 0 where
  pub op : Op
  pub name : List ℕ
  pub words : List (List ℕ)

abbrev pub form : Op → List ℕ → List (List ℕ) → Form
form o name words = record { op = o; name = name; words = words }

-- the words of a record's fields
abbrev pub record_words : List (List ℕ)
record_words = bytes " key=" ∷ bytes " pieces=" ∷ bytes " state=" ∷ []

abbrev pub key_word : List (List ℕ)
key_word = bytes " key=" ∷ []

-- the ten forms
unfoldable pub form_of : Op → Form
form_of op.Post = form op.Post (bytes "op=post") record_words
form_of op.Amend = form op.Amend (bytes "op=amend") record_words
form_of op.Drop = form op.Drop (bytes "op=drop") key_word
form_of op.Find = form op.Find (bytes "op=find") key_word
form_of op.Rank = form op.Rank (bytes "op=rank") (bytes " r=" ∷ [])
form_of op.Total = form op.Total (bytes "op=total") key_word
form_of op.Worth = form op.Worth (bytes "op=worth") []
form_of op.Fire = form op.Fire (bytes "op=fire") (bytes " rule=" ∷ bytes " holder=" ∷ bytes " side=" ∷ [])
form_of op.Tidy = form op.Tidy (bytes "op=tidy") (bytes " budget=" ∷ [])
form_of op.List = form op.List (bytes "op=list") []

-- by how many numbers they have
abbrev pub three_forms : List Form
three_forms = form_of op.Post ∷ form_of op.Amend ∷ form_of op.Fire ∷ []

abbrev pub one_forms : List Form
one_forms =
    form_of op.Drop ∷ form_of op.Find ∷ form_of op.Rank ∷ form_of op.Total ∷ form_of op.Tidy ∷ []

abbrev pub plain_forms : List Form
plain_forms = form_of op.Worth ∷ form_of op.List ∷ []

abbrev pub forms : List Form
forms = three_forms ++ (one_forms ++ plain_forms)

-- the command of a name, given the last three numbers of the line
abbrev pub asked : Op → ℕ → ℕ → ℕ → Command
asked op.Post a b c = Post a b c
asked op.Amend a b c = Amend a b c
asked op.Drop a b c = Drop c
asked op.Find a b c = Find c
asked op.Rank a b c = Rank c
asked op.Total a b c = Total c
asked op.Worth a b c = Worth
asked op.Fire a b c = Fire a b c
asked op.Tidy a b c = Tidy c
asked op.List a b c = Listing

-- the command of a line that was read; of one that is of another form, what else it is
abbrev pub made : Op → Option Read → Option Command → Option Command
made o (Some r) other = Some (asked o r.a r.b r.c)
made o None other = other

-- the whole line is of the form
abbrev pub form_read : List ℕ → Form → Option Read
form_read s f = end_then s (fields_then s f.words (word_then s f.name begin))

-- the first of some forms that the line is of, and what it is if it is of none
unfoldable pub tried : List Form → List ℕ → Option Command → Option Command
tried [] s other = other
tried (f ∷ fs) s other = made f.op (form_read s f) (tried fs s other)

-- what a line asks for: one over 80 bytes, or of no form, is unreadable
unfoldable pub command_of : List ℕ → Option Command
command_of s = cond (ltb 80 (length s)) None (tried forms s None)

-- a command that some line asks for
unfoldable pub readable : Option Command → Bool
readable (Some x) = true
readable None = false
