-- `text_print::text::put_text` meets its contract: what is copied is laid at its place. Assumes nothing.
use Rattle.std.proofs.Common.{refl}
use Rattle.text_print.proofs.Kept.{laid-copied}
use Rattle.text_print.proofs.text.put_text.Goals as goal

pub returns : goal.returns
returns c = record { holds = laid-copied _ _ _ _ c.copy_from_slice.ensures.after c.requires; place = refl }
