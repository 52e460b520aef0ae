-- `order_lists::order_all` meets its contract: as long as no order is refused, the orders left go to the unit so far.
use Rattle.std.proofs.Common.{◌≡◌, length}
use Rattle.order_lists.specs.Lists.{orders_in, ordered_all}
use Rattle.order_lists.proofs.order_all.Given as goal

abbrev pub invariant-loop-rest : goal.invariant-loop-rest
invariant-loop-rest l = ordered_all l.initial.unit (orders_in l.words) ≡ ordered_all l.unit (orders_in l.rest)

abbrev pub decreases-loop-rest : goal.decreases-loop-rest
decreases-loop-rest l = length l.rest
