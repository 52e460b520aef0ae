-- `order_lists::are_orders` meets its contract: as long as each order passed is one, the words left decide.
use Rattle.std.proofs.Common.{◌≡◌, length}
use Rattle.order_lists.specs.Lists.{are_orders}
use Rattle.order_lists.proofs.are_orders.Given as goal

abbrev pub invariant-loop-rest : goal.invariant-loop-rest
invariant-loop-rest l = are_orders l.words ≡ are_orders l.rest

abbrev pub decreases-loop-rest : goal.decreases-loop-rest
decreases-loop-rest l = length l.rest
