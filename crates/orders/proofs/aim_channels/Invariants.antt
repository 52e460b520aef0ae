-- `orders::aim_channels` meets its contract. The loop's invariant: of the channels so far, those that the side names have the target set.
use mathlib.Core.Path.{◌≡◌}
use Rattle.lists.specs.Lists.{changed}
use Rattle.settings.specs.Settings.{names}
use Rattle.orders.specs.Orders.{aimed_channel}
use Rattle.orders.proofs.Front.{below}
use Rattle.orders.proofs.aim_channels.Given as goal

abbrev pub invariant-loop-own : goal.invariant-loop-own
invariant-loop-own l = l.channels ≡ changed (below (names l.side) l.own) (aimed_channel l.band l.target) l.initial.channels
