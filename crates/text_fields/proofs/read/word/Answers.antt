-- `text_fields::read::word` meets its contract. Assumes nothing.
use Rattle.std.proofs.Common.{arith, drop, sym, ◌∙◌, length-drop, rules}
use Rattle.text_fields.proofs.Words.{starts-fits}
use Rattle.text_fields.specs.Read.{word_then}
use Rattle.text_fields.proofs.read.word.Goals as goal

pub returns-in_err-a : goal.returns-in_err-a
unfolding word_then
returns-in_err-a c = search rules

pub returns-then-not-starts : goal.returns-then-not-starts
unfolding word_then
returns-then-not-starts c = simp (c.in_ok-a.was, sym c.starts.ensures, c.if-not-starts.true)

pub overflow_add-next : goal.overflow_add-next
overflow_add-next c =
    let s = c.args.s.now in
    let at = c.in_ok-a.field-0.next in
    let fits = starts-fits _ (drop at s) (sym c.starts.ensures ∙ c.if-not-starts.false) in
    omega (arith, fits, length-drop at s)

pub returns : goal.returns
unfolding word_then
returns c = simp (c.in_ok-a.was, sym c.starts.ensures, c.if-not-starts.false)
