-- `words::write::put_link` meets its contract. Assumes nothing.
use mathlib.Core.Path.{sym}
use Rattle.words.proofs.write.put_link.Goals as goal

pub returns : goal.returns
returns c = simp (sym c.link_word-at.ensures)
