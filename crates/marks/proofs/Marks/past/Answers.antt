-- `marks::Marks::past` meets its contract. Assumes nothing.
use mathlib.Core.Path.{refl}
use Rattle.marks.proofs.Passing.{past_word, past_one}
use Rattle.marks.proofs.Marks.past.Goals as goal

pub returns-then-self-at : goal.returns-then-self-at
returns-then-self-at c =
    rw (← c.self.view_is) (past_word _ c.args.k c.args.whole _ refl c.requires c.if-self-at.true)

pub returns-else-self-at : goal.returns-else-self-at
returns-else-self-at c = past_one _ c.args.k c.args.whole c.requires
