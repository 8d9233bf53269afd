-- `words::write::put_register` meets its contract. Assumes nothing.
use mathlib.Core.Path.{sym}
use Rattle.words.proofs.write.put_register.Goals as goal

pub returns : goal.returns
returns c = simp (sym c.register_at-at.ensures)
