-- `post::leaf` meets its contract. Assumes nothing.
use Rattle.post.proofs.leaf.Goals as goal

pub returns : goal.returns
returns c = simp (c.with_record.ensures, c.zeros.ensures)
