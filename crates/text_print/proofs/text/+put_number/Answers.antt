-- `text_print::text::put_number` meets its contract: a digit alone, or the digits in front of it and it. Assumes nothing.
use mathlib.Core.Path.{ap}
use native.Mathlib.Omega.{arith}
use lib.ListN.{length}
use Rattle.text_fields.proofs.Decimal.{decimal-small, decimal_step, decimal-step-length}
use Rattle.text_print.proofs.Laid.{put_byte, put-more}
use Rattle.text_print.proofs.text.+put_number.Goals as goal

pub bounds-out-at : goal.bounds-out-at
bounds-out-at t c = omega (arith, c.requires, ap length (decimal-small c.args.n c.if-n-lt10.true))

pub returns-then-n-lt10 : goal.returns-then-n-lt10
returns-then-n-lt10 t c = rw (decimal-small c.args.n c.if-n-lt10.true) (put_byte _ _ _)

pub put_number-end-requires : goal.put_number-end-requires
put_number-end-requires t c =
    let l = decimal-step-length c.args.n c.if-n-lt10.false (omega arith) in
    (omega arith, omega (arith, c.requires, l))

pub bounds-out-end : goal.bounds-out-end
bounds-out-end t c =
    let l = decimal-step-length c.args.n c.if-n-lt10.false (omega arith) in
    omega (arith, c.requires, l, c.put_number-end.ensures.place, c.put_number-end.auto.out)

pub overflow_add-result-2 : goal.overflow_add-result-2
overflow_add-result-2 t c =
    let l = decimal-step-length c.args.n c.if-n-lt10.false (omega arith) in
    omega (arith, c.requires, l, c.put_number-end.ensures.place, c.put_number-end.auto.out)

pub returns : goal.returns
returns t c = rw (decimal_step c.args.n c.if-n-lt10.false (omega arith)) (put-more _ c.put_number-end.ensures)
