-- `tidy::call::tidied` meets its contract. Assumes nothing.
use mathlib.Core.Path.{◌∙◌}
use Rattle.tidy.proofs.Reviewing.{all_listed}
use Rattle.tidy.proofs.Outcome.{as-number, told-so}
use Rattle.tidy.proofs.call.tidied.Goals as goal

pub run_budget-e-requires : goal.run_budget-e-requires
run_budget-e-requires c =
    record {
      whole = c.requires;
      holds = c.note_all.ensures;
      listed = all_listed c.review_all.ensures;
    }

pub returns : goal.returns
returns c =
    told-so c.args.t.now c.args.c c.args.budget c.run_budget-e.ensures
    (c.from.ensures ∙ c.change-change.ensures)
    c.from-2.ensures (rw (c.from-3.ensures, as-number c.run_budget-e.result.quiet) at c.accept.ensures)
