-- `post::hang` meets its contract. Assumes nothing.
use mathlib.Core.Path.{sym}
use native.Mathlib.Omega.{arith}
use Rattle.spelling.proofs.Laws.{link-lt}
use Rattle.post.proofs.Written.{hung-by}
use Rattle.post.proofs.hang.Goals as goal

pub put_link-requires : goal.put_link-requires
put_link-requires c =
    let p = c.requires in (omega arith, omega (arith, link-lt _ _ c.args.link p.placed.ready.sized p.held))

pub returns : goal.returns
returns c =
    hung-by _ _ _ _ c.records-count.ensures c.change-change.ensures
    c.put_slot.ensures c.put_link.ensures
    (simp (sym c.put_records.ensures) c.next_change.ensures)
