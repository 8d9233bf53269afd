-- `text_fields::number::digits_at` meets its contract: each way out is a law of `Reading`.
use Rattle.std.proofs.Common.{arith, sym, ◌∙◌}
use Rattle.text_fields.proofs.Digits.{reading-next, reading-over, reading-done, digits-end, digits-over}
use Rattle.text_fields.proofs.number.digits_at.Goals as goal

pub returns-in_err-checked_mul : goal.returns-in_err-checked_mul
returns-in_err-checked_mul c =
    let digit = sym c.is_ascii_digit.ensures.value ∙ c.if-not-is_ascii_digit.false in
    rw c.from_residual.ensures
    (reading-over _ _ c.rest-c-items.ensures c.loop-c.invariant.reading (omega arith) digit (omega (arith, c.in_err-checked_mul.ensures)))

pub returns-in_err-value : goal.returns-in_err-value
returns-in_err-value c =
    let digit = sym c.is_ascii_digit.ensures.value ∙ c.if-not-is_ascii_digit.false in
    rw c.from_residual-in_err-value.ensures
    (reading-over _ _ c.rest-c-items.ensures c.loop-c.invariant.reading (omega arith) digit
    (omega (arith, c.in_err-value.ensures, c.in_ok-checked_mul.ensures, c.from.ensures)))

pub loop-c-preserved : goal.loop-c-preserved
loop-c-preserved c =
    let digit = sym c.is_ascii_digit.ensures.value ∙ c.if-not-is_ascii_digit.false in
    record {
      reading =
          reading-next c.in_ok-value.value c.loop-c.invariant.reading (omega arith) digit
          (omega (arith, c.in_ok-value.ensures, c.in_ok-checked_mul.ensures, c.from.ensures))
          (omega (arith, c.in_ok-value.ensures));
      place = omega arith;
    }

pub returns-after-loop-c : goal.returns-after-loop-c
returns-after-loop-c c =
    let i = c.loop-c.invariant in
    reading-done _ _ _ c.rest-c-items.ensures i.reading (digits-end _ _ c.loop-c-test.false) i.place

pub returns-then-not-is_ascii_digit : goal.returns-then-not-is_ascii_digit
returns-then-not-is_ascii_digit c =
    let i = c.loop-c.invariant in
    let digit = sym c.is_ascii_digit.ensures.value ∙ c.if-not-is_ascii_digit.true in
    reading-done _ _ _ c.rest-c-items.ensures i.reading (digits-over _ c.loop-c.c-index (omega arith) digit) i.place
