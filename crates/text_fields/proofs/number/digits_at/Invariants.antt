-- The invariant of `text_fields::number::digits_at` is `Reading`: what is left from i on makes of the value what all the digits are worth.
use Rattle.std.proofs.Common.{◌≡◌, ◌+◌}
use Rattle.text_fields.proofs.Digits.{Reading}
use Rattle.text_fields.proofs.number.digits_at.Given as goal

abbrev pub invariant-loop-c : goal.invariant-loop-c
invariant-loop-c l = record {
  reading : Reading l.c-items l.value l.c-index;
  place : l.next ≡ l.at + l.c-index;
}
