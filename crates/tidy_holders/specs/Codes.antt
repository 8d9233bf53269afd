-- A link as a number: twice its holder, one more on the right, 0 at the root. Assumes nothing: these are definitions.
use Rattle.std.specs.Prelude.{ℕ, ◌+◌, ◌*◌, ◌/◌, ◌%◌, cond, List, get_or, eqb}
use Rattle.scope.specs.Table.{word, link_at}
use Rattle.scope.specs.declared.side.Side.{Side}
use Rattle.scope.specs.declared.side.Side.TheVariants.{Left, Right}
use Rattle.scope.specs.declared.side.Link.{Link}
use Rattle.bridge.specs.Leads.{side_number}

abbrev pub link_for : ℕ → Side → Link
link_for k s = record { holder = k; side = s }

unfoldable pub link_number : Link → ℕ
link_number l = 2 * l.holder + side_number l.side

unfoldable pub link_numbered : ℕ → Link
link_numbered q = link_for (q / 2) (cond (eqb (q % 2) 0) Left Right)

-- the slot that hangs at the link of a number
unfoldable pub held_at : List ℕ → ℕ → ℕ
held_at t q = word t (link_at (link_numbered q))

-- the slot that holds slot k by what is noted, or k itself at the root
unfoldable pub above_of : List ℕ → ℕ → ℕ
above_of h k = cond (eqb (get_or h k 0 / 2) 0) k (get_or h k 0 / 2)
