-- The measure of `text_print::text::put_number` is the number.
use Rattle.text_print.proofs.text.+put_number.Given as goal

abbrev pub decreases-put_number : goal.decreases-put_number
decreases-put_number l = l.n
