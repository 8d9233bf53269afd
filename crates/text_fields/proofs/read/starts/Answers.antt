-- `text_fields::read::starts` meets its contract. Assumes nothing.
use Rattle.std.proofs.Common.{sym, ◌∙◌}
use Rattle.text_fields.proofs.Words.{starts-same}
use Rattle.text_fields.proofs.read.starts.Goals as goal

pub returns : goal.returns
returns c = rw (sym c.rest.ensures) (c.starts_with.ensures.value ∙ starts-same _ _)
