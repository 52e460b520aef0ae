-- `numbers::put_bands` meets its contract. The loop's invariant: the first b bands are stored.
use Prim.Native.Nat.{◌+◌, ◌*◌}
use lib.ListN.{take}
use Rattle.lists.specs.Lists.{joined}
use Rattle.numbers.specs.Layout.{bands_place, band_numbers, PutGives}
use Rattle.numbers.proofs.put_bands.Given as goal

abbrev pub invariant-loop-b : goal.invariant-loop-b
invariant-loop-b l = PutGives l.initial.out bands_place (joined band_numbers (take l.b l.fn.bands)) (3 * l.b + 2) l.out
