-- `numbers::numbers_of` meets its contract: the volume, the bands and the channels are stored one behind the other.
use mathlib.Core.Path.{ap}
use native.Mathlib.Omega.{arith}
use lib.ListN.{length}
use Rattle.numbers.specs.Layout.{numbers_of}
use Rattle.numbers.proofs.Put.{put_then, put_as, put_all}
use Rattle.numbers.proofs.numbers_of.Goals as goal

pub returns : goal.returns
unfolding numbers_of
returns c =
    put_all
    (put_then (put_as c.put_row.ensures c.volume_row.ensures (omega (arith, ap length c.volume_row.ensures)))
    (put_then c.put_bands.ensures c.put_channels.ensures))
