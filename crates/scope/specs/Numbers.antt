-- Raw numbers as sides, links, rules, heights and slot counts (document 01, "Kept as constants of their type").
use Rattle.std.specs.Prelude.{ℕ, cond, not, ◌&&◌, leb, ltb, eqb, Option, Some, None, Result, Ok, Err}
use Rattle.scope.specs.declared.answer.Refusal.{Refusal}
use Rattle.scope.specs.declared.answer.Refusal.TheVariants.{WrongLength, OutOfRange, TooHigh}
use Rattle.scope.specs.declared.side.Side.{Side}
use Rattle.scope.specs.declared.side.Side.TheVariants.{Left, Right}
use Rattle.scope.specs.declared.side.Link.{Link}
use Rattle.scope.specs.declared.rule.Kind.{Kind}
use Rattle.scope.specs.declared.rule.Kind.TheVariants.{Propagate, Lean, Even, Double}
use Rattle.scope.specs.declared.rule.Rule.{Rule}
use Rattle.scope.specs.declared.height.Height.{Height}
use Rattle.scope.specs.declared.slots.Slots.{Slots}

-- the other side
abbrev pub other : Side → Side
other Left = Right
other Right = Left

-- side 0 is left, side 1 right
unfoldable pub side_of : ℕ → Option Side
side_of n = cond (eqb n 0) (Some Left) (cond (eqb n 1) (Some Right) None)

-- the link of the root: slot 0 holds it
abbrev pub root_link : Link
root_link = record { holder = 0; side = Left }

abbrev pub known_link : ℕ → ℕ → Option Side → Option Link
known_link holder n None = None
known_link holder n (Some s) =
    cond (eqb holder 0 && not (eqb n 0)) None (Some (record { holder = holder; side = s }))

-- a holder among c slots and a side; holder 0 names the root's link and has no right side
unfoldable pub link_of : ℕ → ℕ → ℕ → Option Link
link_of c holder side = cond (ltb c holder) None (known_link holder side (side_of side))

abbrev pub rule_is : Kind → Side → Option Rule
rule_is k s = Some (record { kind = k; side = s })

-- rules 1 to 8: each kind on the left, then on the right
unfoldable pub rule_of : ℕ → Option Rule
rule_of n =
    cond (eqb n 1) (rule_is Propagate Left) (cond (eqb n 2) (rule_is Propagate Right)
    (cond (eqb n 3) (rule_is Lean Left) (cond (eqb n 4) (rule_is Lean Right)
    (cond (eqb n 5) (rule_is Even Left) (cond (eqb n 6) (rule_is Even Right)
    (cond (eqb n 7) (rule_is Double Left) (cond (eqb n 8) (rule_is Double Right) None)))))))

-- the largest height that a register holds
abbrev pub most_height : ℕ
most_height = 65535

unfoldable pub height_of : ℕ → Option Height
height_of n = cond (leb n most_height) (Some (record { number = n })) None

-- the most slots of a table
abbrev pub most_slots : ℕ
most_slots = 4095

unfoldable pub slots_of : ℕ → Option Slots
slots_of n = cond (not (eqb n 0) && leb n most_slots) (Some (record { count = n })) None

-- the largest key and change number, and the most pieces of a record
abbrev pub last_change : ℕ
last_change = 4294967295

abbrev pub most_pieces : ℕ
most_pieces = 1000000
