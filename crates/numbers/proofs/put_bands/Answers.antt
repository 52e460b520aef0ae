-- `numbers::put_bands` meets its contract. The loop's invariant: the first b bands are stored.
use mathlib.Core.Path.{ap}
use Prim.Native.Nat.{◌+◌, ◌*◌}
use native.Mathlib.Omega.{arith}
use lib.ListN.{length}
use Rattle.unit.proofs.PastEnd.{zero_band}
use Rattle.numbers.specs.Layout.{band_numbers}
use Rattle.numbers.proofs.Put.{put_entry}
use Rattle.numbers.proofs.put_bands.Goals as goal

pub loop-b-preserved : goal.loop-b-preserved
loop-b-preserved c =
    put_entry band_numbers c.args.bands zero_band c.loop-b.b (omega arith) c.loop-b.invariant c.put_row.ensures c.band_row.ensures
    (3 * (c.loop-b.b + 1) + 2) (omega (arith, ap length c.band_row.ensures))
