-- `in_order::order_at` and `in_order::order_under` meet their contracts. Assumes nothing.
use mathlib.Core.Path.{◌∙◌}
use native.Mathlib.Omega.{arith}
use lib.ListN.{length-set}
use Rattle.fork.proofs.Down.{in_reach, forked}
use Rattle.in_order.proofs.Walks.{none-listed, left-room, has-place, right-room, listed_here}
use Rattle.in_order.proofs.+order_at_order_under.Goals as goal

pub order_at-fork_at-f-requires : goal.order_at-fork_at-f-requires
order_at-fork_at-f-requires t c = in_reach c.requires.1.hangs c.requires.0

pub order_at-overflow_sub-less : goal.order_at-overflow_sub-less
order_at-overflow_sub-less t c = (forked c.requires.1.hangs c.requires.0 c.fork_at-f.ensures).some

pub order_at-order_under-here-requires : goal.order_at-order_under-here-requires
order_at-order_under-here-requires t c =
    let d = forked c.requires.1.hangs c.requires.0 c.fork_at-f.ensures in
    (omega (arith, c.decreases, d.some), left-room c.requires.1 d)

pub order_at-offset_bounds-list-here : goal.order_at-offset_bounds-list-here
order_at-offset_bounds-list-here t c =
    let free = has-place c.requires.1
    (forked c.requires.1.hangs c.requires.0 c.fork_at-f.ensures)
    c.order_under-here.auto.list c.order_under-here.ensures in
    omega (arith, free)

pub order_at-bounds-list-here : goal.order_at-bounds-list-here
order_at-bounds-list-here t c =
    has-place c.requires.1 (forked c.requires.1.hangs c.requires.0 c.fork_at-f.ensures) c.order_under-here.auto.list c.order_under-here.ensures

pub order_at-overflow_add-here : goal.order_at-overflow_add-here
order_at-overflow_add-here t c =
    let free = has-place c.requires.1
    (forked c.requires.1.hangs c.requires.0 c.fork_at-f.ensures)
    c.order_under-here.auto.list c.order_under-here.ensures in
    omega (arith, free)

pub order_at-order_under-requires : goal.order_at-order_under-requires
order_at-order_under-requires t c =
    let d = forked c.requires.1.hangs c.requires.0 c.fork_at-f.ensures in
    let room = right-room c.requires.1 d c.order_under-here.auto.list c.order_under-here.ensures in
    (omega (arith, c.decreases, d.some), room)

pub order_at-shape_of-list : goal.order_at-shape_of-list
order_at-shape_of-list t c =
    let put = length-set c.order_under-here.new.list c.order_under-here.result c.args.x in
    c.order_under.auto.list ∙ put ∙ c.order_under-here.auto.list

pub order_at-returns : goal.order_at-returns
order_at-returns t c =
    listed_here c.requires.1
    (forked c.requires.1.hangs c.requires.0 c.fork_at-f.ensures)
    c.order_under-here.auto.list c.order_under-here.ensures
    c.order_under.ensures

pub order_under-order_at-requires : goal.order_under-order_at-requires
order_under-order_at-requires t c =
    (omega (arith, c.decreases), (omega (arith, c.if-x-eq0.false), c.requires))

pub order_under-returns-then-x-eq0 : goal.order_under-returns-then-x-eq0
order_under-returns-then-x-eq0 t c = none-listed _ _ _ _ c.if-x-eq0.true

pub order_under-returns-else-x-eq0 : goal.order_under-returns-else-x-eq0
order_under-returns-else-x-eq0 t c = c.order_at.ensures
