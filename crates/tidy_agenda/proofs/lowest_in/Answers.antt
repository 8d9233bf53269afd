-- `tidy_agenda::lowest_in` meets its contract. Assumes nothing.
use Rattle.tidy_agenda.proofs.Zeros.{lowest-bit}
use Rattle.tidy_agenda.proofs.lowest_in.Goals as goal

pub returns : goal.returns
returns c = lowest-bit c.args.word c.ranges.word.fits c.requires
