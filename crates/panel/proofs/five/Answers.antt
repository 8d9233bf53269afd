-- `panel::five` meets its contract. Assumes nothing.
use mathlib.Core.Path.{refl}
use Rattle.panel.proofs.five.Goals as goal

pub returns : goal.returns
returns c = refl
