-- `text_print::text::put_field` meets its contract. Assumes nothing.
use native.Mathlib.Omega.{arith}
use Rattle.text_print.proofs.Laid.{put_then}
use Rattle.text_fields.proofs.Decimal.{decimal-length}
use Rattle.text_print.proofs.text.put_field.Goals as goal

pub put_number-requires : goal.put_number-requires
put_number-requires c =
    omega (arith, c.requires, decimal-length c.args.n, c.put_text-p.ensures.place, c.put_text-p.auto.out)

pub returns : goal.returns
returns c =
    record {
      put = put_then c.put_text-p.ensures c.put_number.ensures;
      within = omega (arith, decimal-length c.args.n, c.put_text-p.ensures.place, c.put_number.ensures.place);
    }
