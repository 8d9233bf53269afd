-- `in_order::order_at` and `in_order::order_under` meet their contracts. Assumes nothing.
use Prim.Native.Nat.{◌+◌, ◌*◌}
use Rattle.in_order.proofs.+order_at_order_under.Given as goal

abbrev pub decreases-order_at : goal.decreases-order_at
decreases-order_at l = 2 * l.more

abbrev pub decreases-order_under : goal.decreases-order_under
decreases-order_under l = 2 * l.more + 1
