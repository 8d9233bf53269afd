-- Demand 1: fire, whatever the words and arguments: accepted, or refused with a listed code. Assumes nothing.
use Prim.Native.Nat.{ℕ}
use mathlib.Core.Path.{◌≡◌, refl}
use mathlib.Core.Bool.{true, not, ◌&&◌}
use mathlib.Core.List.{List}
use lib.ListN.{length}
use lib.Dec.{eqb, leb}
use Rattle.scope.specs.Numbers.{other, most_height, rule_of, link_of}
use Rattle.scope.specs.Table.{word, slots_in, slot_at, link_at, son}
use Rattle.scope.specs.Fit.{fit_slot, header_ok}
use Rattle.scope.specs.Answers.{code_of}
use Rattle.scope.specs.Rules.{guard_at, highest_at}
use Rattle.scope.specs.Fire.{has_third, take_of, judged, aim_w, aim_u, aim_v, aim, aimed, fire_plan, fired, fire_of}
use Rattle.scope.specs.Answers.{and_then, if_named, on_slots}
use Rattle.scope.specs.Calls.{Fire}
use Rattle.scope.specs.declared.answer.Refusal.{Refusal}
use Rattle.scope.specs.declared.answer.Refusal.TheVariants.{WrongLength, OutOfRange, Damaged, GuardFails, TooHigh}
use Rattle.scope.specs.declared.slot.Slot.{Slot}
use Rattle.scope.specs.declared.rule.Rule.{Rule}
use Rattle.scope.specs.declared.side.Link.{Link}
use Rattle.scope.specs.declared.outcome.Nodes.{Nodes}
use Rattle.demands.specs.Listed.{codes_bare, among, Answered, accepts, refuses}
use Rattle.demands.proofs.First.Refusals.{either}
use Rattle.std.specs.Prelude.{Option, Some, None, Result, Ok, Err}
use Rattle.scope.specs.declared.slots.Slots.{Slots}

-- fire: its slots, its guard and its limit
data Takes : Result Slot Refusal → Type 0 where
  got : {s : Slot} → Takes (Ok s)
  missing : Takes (Err GuardFails)
  unfit : Takes (Err Damaged)

data FiresListed (listed : List ℕ) : Result (Rule × Nodes) Refusal → Type 0 where
  not_fire : (why : Refusal) → among (code_of why) listed ≡ true → FiresListed listed (Err why)
  fires : {r : Rule} {n : Nodes} → FiresListed listed (Ok (r, n))

module _ (t : List ℕ) (rule holder side : ℕ) where
  abbrev listed : List ℕ
  listed = codes_bare (Fire rule holder side)

  takes : (c k a b e : ℕ) → Takes (take_of t c k a b e)
  unfolding take_of
  takes c k a b e =
      either Takes (eqb k 0) missing
      (either Takes (fit_slot c (slot_at t k) && not (eqb k a) && not (eqb k b) && not (eqb k e)) got unfit)

  taken : (x : Result Slot Refusal) (f : Slot → Result (Rule × Nodes) Refusal) → Takes x
      → ((s : Slot) → FiresListed listed (f s)) → FiresListed listed (and_then x f)
  taken x f (got {s = s}) h = h s
  taken x f missing h = not_fire GuardFails refl
  taken x f unfit h = not_fire Damaged refl

  judges : (r : Rule) (n : Nodes) → FiresListed listed (judged r n)
  unfolding judged
  judges r n =
      either (FiresListed listed) (guard_at r n)
      (either (FiresListed listed) (leb (highest_at r n) most_height) fires (not_fire TooHigh refl)) (not_fire GuardFails refl)

  module _ (c : ℕ) (r : Rule) (link : Link) where
    w-may : (v : ℕ) (sv : Slot) (u : ℕ) (su : Slot) → FiresListed listed (aim_w t c r link v sv u su)
    unfolding aim_w
    w-may v sv u su = taken (take_of t c (son su (other r.side)) link.holder v u) _ (takes c _ _ _ _) (λ sw. judges r _)

    u-may : (v : ℕ) (sv : Slot) → FiresListed listed (aim_u t c r link v sv)
    unfolding aim_u
    u-may v sv =
        taken (take_of t c (son sv r.side) link.holder v 0) _ (takes c _ _ _ _)
        (λ su. either (FiresListed listed) (has_third r.kind) (w-may v sv (son sv r.side) su) (judges r _))

    v-may : FiresListed listed (aim_v t c r link)
    unfolding aim_v
    v-may = taken (take_of t c (word t (link_at link)) link.holder 0 0) _ (takes c _ _ _ _) (λ sv. u-may (word t (link_at link)) sv)

    aimed-may : FiresListed listed (aimed t c r link)
    unfolding aimed aim
    aimed-may =
        either (FiresListed listed) (header_ok c t)
        (either (FiresListed listed) (eqb link.holder 0) v-may
        (either (FiresListed listed) (eqb (slot_at t link.holder).state 0) (not_fire GuardFails refl)
        (either (FiresListed listed) (fit_slot c (slot_at t link.holder)) v-may (not_fire Damaged refl))))
        (not_fire Damaged refl)

  named : (c : ℕ) (a : Option Rule) (b : Option Link) → FiresListed listed (if_named a (λ r. if_named b (λ l. aimed t c r l)))
  named c None b = not_fire OutOfRange refl
  named c (Some r) None = not_fire OutOfRange refl
  named c (Some r) (Some l) = aimed-may c r l

  planned : (s : Option Slots) → FiresListed listed (on_slots s
      (λ c. if_named (rule_of rule) (λ r. if_named (link_of c holder side) (λ l. aimed t c r l))))
  planned None = not_fire WrongLength refl
  planned (Some s) = named s.count (rule_of rule) (link_of s.count holder side)

  ends : (f : Result (Rule × Nodes) Refusal) → FiresListed listed f → Answered (Fire rule holder side) t (fired t f)
  unfolding fired
  ends f (not_fire why e) = refuses why e
  ends f fires = accepts refl

  pub fire-answered : Answered (Fire rule holder side) t (fire_of t rule holder side)
  unfolding fire_of fire_plan
  fire-answered = ends _ (planned (slots_in (length t)))
