-- The table that `stand` starts with, and the room for what a line on it prints (document 01, "The program").
use Rattle.std.specs.Prelude.{ℕ, List, replicate}
use Rattle.scope.specs.Table.{table_words}
use Rattle.text_list.specs.List.{list_room}

-- 15 slots
abbrev pub desk_words : ℕ
desk_words = table_words 15

-- all of them free
abbrev pub new_desk : List ℕ
new_desk = replicate desk_words 0

-- no line prints more than the whole list
abbrev pub desk_room : ℕ
desk_room = list_room desk_words
