-- `text_fields::number::number_at` meets its contract: each way out is a law of `number_at` over what `digits_at` tells (`Known`).
use Rattle.std.proofs.Common.{arith, sym, ◌∙◌}
use Rattle.text_fields.proofs.Numbers.{digits-known, digits-too, number-empty, number-led, number-plain, number-over}
use Rattle.text_fields.proofs.number.number_at.Goals as goal
use Rattle.text_fields.proofs.number.number_at.Goals.{else-s-at-eq48-via-then-s-at-eq48+else-at-number, else-s-at-eq48-via-else-s-at-eq48}

pub returns-in_err-number : goal.returns-in_err-number
returns-in_err-number c =
    rw c.from_residual.ensures (number-over _ _ (digits-too _ _ (sym c.in_err-number.was ∙ c.digits_at.ensures)))

pub returns-then-number-at : goal.returns-then-number-at
returns-then-number-at c =
    number-empty (digits-known _ _ _ (sym c.in_ok-number.was ∙ c.digits_at.ensures)) c.if-number-at.true

pub bounds-s-at : goal.bounds-s-at
bounds-s-at c =
    let k = digits-known _ _ _ (sym c.in_ok-number.was ∙ c.digits_at.ensures) in
    omega (arith, k.place, k.inside)

pub returns-then-at-number : goal.returns-then-at-number
returns-then-at-number c =
    number-led (digits-known _ _ _ (sym c.in_ok-number.was ∙ c.digits_at.ensures)) c.if-at-number.true c.if-s-at-eq48.true

pub returns : goal.returns
returns c =
    let known = digits-known _ _ _ (sym c.in_ok-number.was ∙ c.digits_at.ensures) in
    number-plain known c.if-number-at.false
    (λ long zero.
    elim c.else-s-at-eq48.branch [
      | else-s-at-eq48-via-then-s-at-eq48+else-at-number w ↦ absurd (omega (arith, long, w.if-at-number.false))
      | else-s-at-eq48-via-else-s-at-eq48 w ↦ w.if-s-at-eq48.false zero
    ])
