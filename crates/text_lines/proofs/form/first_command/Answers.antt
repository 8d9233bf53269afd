-- `text_lines::form::first_command` meets its contract: the forms are tried one after the other. Assumes nothing.
use Rattle.std.proofs.Common.{◌≢◌, ◌≡◌, ◌++◌, ℕ, List, sym, ◌∙◌}
use Rattle.std.specs.Prelude.{MatchOption}
use Rattle.std.proofs.lemmas.Slice.Eq.{strip_prefix_is}
use Rattle.std.proofs.lemmas.Bool.Decides.{Decides-eqb}
use Rattle.text_fields.specs.Text.{bytes}
use Rattle.text_fields.proofs.Words.{starts-same}
use Rattle.text_lines.specs.Shape.{op_form}
use Rattle.text_lines.proofs.Trying.{tried-here, shape-tried, tried-none}
use Rattle.text_lines.proofs.Naming.{other-name, no-name, named-too}
use Rattle.text_lines.proofs.form.first_command.Goals as goal
use Rattle.text_lines.proofs.form.first_command.Goals.{After-strip_prefix, then-starts_with+else-is_some, else-starts_with}

-- what `strip_prefix` tells of a line: what stands behind `op=`, or that it does not begin so
told : (c : After-strip_prefix)
    → MatchOption c.strip_prefix.result ((rest : List ℕ) → c.args.s.now ≢ bytes "op=" ++ rest) (λ x. c.args.s.now ≡ bytes "op=" ++ x.now)
told c = strip_prefix_is Decides-eqb c.args.s.now (bytes "op=") c.strip_prefix.result c.strip_prefix.ensures.cases

pub returns-in_err-named : goal.returns-in_err-named
returns-in_err-named c =
    c.from_residual.ensures ∙ sym (no-name c.args.s.now c.args.shapes.now
    (rw c.in_err-named.was at (told (goal.at.returns-in_err-named c).After-strip_prefix)))

pub command-command-requires : goal.command-command-requires
command-command-requires c =
    named-too c.args.s.now c.in_ok-named.named.now _
    (rw c.in_ok-named.was at (told (goal.at.command-command-requires c).After-strip_prefix))
    (sym (starts-same _ _) ∙ sym c.starts_with.ensures.value ∙ c.if-starts_with.true)

pub returns-then-is_some : goal.returns-then-is_some
returns-then-is_some c =
    tried-here op_form _ _ c.loop-shape.shape-index _ _ c.loop-shape-test.true c.command-command.ensures (sym c.is_some.ensures ∙ c.if-is_some.true)
    ∙ sym c.loop-shape.invariant

pub loop-shape-preserved : goal.loop-shape-preserved
loop-shape-preserved c =
    c.loop-shape.invariant
    ∙ elim c.if-starts_with.branch [
      | then-starts_with+else-is_some w ↦
          shape-tried op_form _ _ c.loop-shape.shape-index _ _ c.loop-shape-test.true w.command-command.ensures (sym w.is_some.ensures ∙ w.if-is_some.false)
      | else-starts_with w ↦
          other-name _ _ _ c.loop-shape.shape-index _
          (rw c.in_ok-named.was at (told (goal.at.loop-shape-preserved c).After-strip_prefix))
          c.loop-shape-test.true
          (sym (starts-same _ _) ∙ sym c.starts_with.ensures.value ∙ w.if-starts_with.false)
    ]

pub returns : goal.returns
returns c = sym (c.loop-shape.invariant ∙ tried-none op_form _ _ c.loop-shape.shape-index c.loop-shape-test.false)
