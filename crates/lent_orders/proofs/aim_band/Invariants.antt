-- `lent_orders::aim_band` meets its contract. The loop's invariant: the target is stored in each channel so far that the side names.
use mathlib.Core.Path.{◌≡◌}
use Rattle.lent_orders.specs.Places.{named_below}
use Rattle.lent_orders.proofs.aim_band.Given as goal

abbrev pub invariant-loop-channel : goal.invariant-loop-channel
invariant-loop-channel l = l.numbers ≡ named_below l.side l.band l.target l.channel l.initial.numbers
