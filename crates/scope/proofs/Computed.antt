-- The definitions compute: every table of examples comes out row by row. Assumes nothing.
use mathlib.Core.Path.{◌≡◌, refl}
use mathlib.Core.List.{List, map}
use Rattle.scope.specs.Numbers.{rule_of, side_of, link_of, slots_of}
use Rattle.scope.specs.Table.{slots_in, slot_at, with_slot, link_at, written}
use Rattle.scope.specs.Edits.{writes}
use Rattle.scope.specs.Fit.{state_ok, pieces_ok, link_ok, tail_ok, fit_slot, blank_slot, header_ok, record_ok}
use Rattle.scope.specs.Tree.{size, in_order, times, all_below, all_above, ordered}
use Rattle.scope.specs.Sound.{tree_of, slot_ok, slots_ok, sound_tree, sound_table}
use Rattle.scope.specs.Answers.{gate}
use Rattle.scope.specs.Walk.{step_of, walk_from, walk_of}
use Rattle.scope.specs.Find.{start_of, found_in, find_answer}
use Rattle.scope.specs.Post.{free_from, free_slot, hang_at, posting_at, post_plan, hung, posted, post_of}
use Rattle.scope.specs.Amend.{amending_at, amend_plan, amended, amend_of}
use Rattle.scope.specs.Drop.{leftmost_from, if_may, drop_at, dropping_at, drop_plan, relinked, dropped, drop_of}
use Rattle.scope.specs.Sums.{check_answer, pick, rank_of, ranked, rank_answer, total_of, total_answer}
use Rattle.scope.specs.Worth.{neg_of, pos_of, NEG, POS, BAL, RBAL, worth_of, worth_answer}
use Rattle.scope.specs.Rules.{guard_at, highest_at, action_at}
use Rattle.scope.specs.Fire.{take_of, judged, aim_w, aim_u, aim_v, aim, aimed, fire_plan, fired, fire_of}
use Rattle.scope.specs.Tidy.{holds_at, due_at, passes, rules_from, slots_from, next_of, quiet, link_from, link_to, fired_at}
use Rattle.scope.specs.Tidy.{tidy_from, tidied, tidy_of, rules_fired}
use Rattle.scope.specs.Calls.{answers, after}
use Rattle.scope.proofs.Script.{Row, rows}
use Rattle.scope.proofs.Marked.{marked, worked}
use Rattle.scope.proofs.Further.{further}
use Rattle.scope.proofs.Refusals.{refusal_rows}
use Rattle.scope.proofs.Damage.{damage}
use Rattle.scope.proofs.Misses.{misses}
use Rattle.scope.proofs.Bites.{bites}

-- what the definitions give in each row is what the row states
abbrev pub RowsHold : List Row → Type 0
RowsHold rs = map (λ r. r.given) rs ≡ map (λ r. r.stated) rs

pub record Computed : Type 0 where
  -- M1 to M8
  pub marked_holds : RowsHold marked
  -- the worked case
  pub worked_holds : RowsHold worked
  pub further_holds : RowsHold further
  pub refusals_hold : RowsHold refusal_rows
  pub damage_holds : RowsHold damage
  -- the neighbours of an absent key
  pub misses_hold : RowsHold misses
  -- what rules idle calls out
  pub bites_hold : RowsHold bites

pub computed : Computed
unfolding rule_of side_of link_of slots_of slots_in slot_at with_slot link_at written writes state_ok pieces_ok link_ok tail_ok
    fit_slot blank_slot header_ok size in_order times all_below all_above ordered tree_of slot_ok slots_ok sound_tree sound_table
    gate step_of walk_from walk_of start_of found_in find_answer record_ok free_from free_slot hang_at posting_at post_plan hung
    posted post_of amending_at amend_plan amended amend_of leftmost_from if_may drop_at dropping_at drop_plan relinked
    dropped drop_of check_answer pick rank_of ranked rank_answer total_of total_answer neg_of pos_of NEG POS BAL RBAL
    worth_of worth_answer guard_at highest_at action_at take_of judged aim_w aim_u aim_v aim aimed fire_plan fired fire_of
    holds_at due_at passes rules_from slots_from next_of quiet link_from link_to fired_at tidy_from tidied tidy_of rules_fired
    answers after
computed =
    record {
      marked_holds = rows marked refl;
      worked_holds = rows worked refl;
      further_holds = rows further refl;
      refusals_hold = rows refusal_rows refl;
      damage_holds = rows damage refl;
      misses_hold = rows misses refl;
      bites_hold = rows bites refl;
    }
