-- `stand_shift::run::refuse_all` hands on the refusal, which is all that is printed then. Assumes nothing.
use mathlib.Core.Path.{◌∙◌}
use Rattle.stand_shift.proofs.Telling.{told-refused, too_long}
use Rattle.stand_shift.proofs.run.refuse_all.Goals as goal

pub hand_on-requires : goal.hand_on-requires
hand_on-requires g c =
    let put = c.put_refusal-n.ensures in
    (put.1, (told-refused c.args.input.now _ _ c.requires.0 put.0 put.1).0)

pub returns-clause-count : goal.returns-clause-count
returns-clause-count g c =
    let put = c.put_refusal-n.ensures in
    c.hand_on.ensures.count ∙ (told-refused c.args.input.now _ _ c.requires.0 put.0 put.1).1

pub returns-clause-bytes : goal.returns-clause-bytes
returns-clause-bytes g c =
    rw (too_long c.args.input.now c.requires.0) (rw c.put_refusal-n.ensures.0 at c.hand_on.ensures.bytes)
