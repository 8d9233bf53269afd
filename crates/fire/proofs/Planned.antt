-- From the raw numbers of a fire to its outcome. Assumes nothing.
use Prim.Native.Nat.{ℕ, ◌≤◌}
use mathlib.Core.Path.{◌≡◌, sym, ◌∙◌}
use mathlib.Core.Bool.{true, false, not, ◌&&◌}
use mathlib.Core.List.{List}
use native.Mathlib.Omega.{arith}
use borrow.Author.Tests.{ltb-false}
use lib.ListN.{length}
use lib.Dec.{eqb, ltb}
use Rattle.scope.proofs.Bools.{by_bool, never}
use Rattle.scope.specs.Numbers.{rule_of, side_of, link_of, known_link}
use Rattle.scope.specs.Table.{word, change_word, slots_in, written}
use Rattle.scope.specs.Fit.{header_ok}
use Rattle.scope.specs.Answers.{refused, accepted}
use Rattle.scope.specs.Rules.{action_at}
use Rattle.scope.specs.Fire.{aim, aimed, fire_plan, fired, fire_of}
use Rattle.scope.specs.Answers.{if_named}
use Rattle.scope.specs.declared.side.Link.{Link}
use Rattle.scope.specs.declared.rule.Rule.{Rule}
use Rattle.scope.specs.declared.slots.Slots.{Slots}
use Rattle.scope.specs.declared.answer.Refusal.{Refusal}
use Rattle.scope.specs.declared.answer.Refusal.TheVariants.{WrongLength, Damaged}
use Rattle.scope.specs.declared.outcome.Nodes.{Nodes}
use Rattle.spelling.specs.Ready.{Sized, Ready}
use Rattle.spelling.proofs.Laws.{header-root, header-count}
use Rattle.fire_aim.specs.Aimed.{Aimed}
use Rattle.std.specs.Prelude.{Option, Some, None, Result, Ok, Err}
use Rattle.scope.specs.declared.side.Side.{Side}

-- a good header makes a table ready
pub ready : {t : List ℕ} {c : ℕ} → Sized t c → header_ok c t ≡ true → Ready t c
ready {t} {c} s h = record { sized = s; root = header-root c t h; count = header-count c t h }

module _ (t : List ℕ) (c : ℕ) (r : Rule) (link : Link) where
  pub aimed_on : {f : (Result (Rule × Nodes) Refusal)} → header_ok c t ≡ true → Aimed c (aim t c r link) f → Aimed c (aimed t c r link) f
  unfolding aimed
  aimed_on h a = record { is = a.is ∙ simp h; may = a.may }

  pub aimed-off : header_ok c t ≡ false → Aimed c (aimed t c r link) (Err Damaged)
  unfolding aimed
  aimed-off h = record { is = simp h; may = tt }

-- a link that is known has a holder of the table
known_holder : (c holder n : ℕ) (s : Option Side) {l : Link} → holder ≤ c → known_link holder n s ≡ Some l → l.holder ≤ c
known_holder c holder n None h e = never cc
known_holder c holder n (Some s) {l} h e =
    by_bool (eqb holder 0 && not (eqb n 0))
    (λ p. let z = simp p at e in never cc)
    (λ p. let z = simp p at e in let y : l.holder ≡ holder = cc in omega arith)

pub link-holder : (c holder side : ℕ) {l : Link} → link_of c holder side ≡ Some l → l.holder ≤ c
unfolding link_of
link-holder c holder side e =
    by_bool (ltb c holder)
    (λ p. let z = simp p at e in never cc)
    (λ p. known_holder c holder side (side_of side) (ltb-false c holder p) (simp p at e))

-- what fire does, by what its tests found
module _ (t : List ℕ) (rule holder side : ℕ) where
  pub fire-shut : slots_in (length t) ≡ None → fire_of t rule holder side ≡ refused t WrongLength
  unfolding fire_of fired fire_plan
  fire-shut e = simp e

  module _ {s : Slots} (e : slots_in (length t) ≡ Some s) where
    -- what it plans in a table of so many slots
    abbrev plan : Result (Rule × Nodes) Refusal
    plan = if_named (rule_of rule) (λ r. if_named (link_of s.count holder side) (λ l. aimed t s.count r l))

    pub fire-refused : {why : Refusal} → Err why ≡ plan → fire_of t rule holder side ≡ refused t why
    unfolding fire_of fired fire_plan
    fire-refused q = simp (e, sym q)

    pub fire-fired : {r : Rule} {n : Nodes} → Ok (r, n) ≡ plan
        → fire_of t rule holder side ≡ record { answer = accepted (word t change_word) 0 0 0; words = written t (action_at r n) }
    unfolding fire_of fired fire_plan
    fire-fired q = simp (e, sym q)
