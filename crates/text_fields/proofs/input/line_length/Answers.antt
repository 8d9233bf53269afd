-- `text_fields::input::line_length` meets its contract: the first newline ends the first line. Assumes nothing.
use Rattle.std.proofs.Common.{eqb, rules, tests, ◌∙◌}
use Rattle.std.proofs.lemmas.Iterator.{YieldsList-from_slice}
use Rattle.std.proofs.lemmas.Iterator.Search.{position_from_yields_List}
use Rattle.text_fields.proofs.Lines.{line-found}
use Rattle.text_fields.proofs.input.line_length.Goals as goal

pub returns : goal.returns
returns c =
    let s = c.args.s.now in
    let found =
    position_from_yields_List (λ x. eqb x 10) _ _ c.position.result c.position.ensures.ran (YieldsList-from_slice s cc)
    (λ x b q k. search (rules, tests)) in
    rw found at c.unwrap_or.ensures ∙ line-found s
