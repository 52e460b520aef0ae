-- `lent_packing::band_floats_at` meets its contract: the coefficients of all bands are one run, on both sides.
use mathlib.Core.Path.{refl}
use lib.Dec.{lit≤}
use lib.ListN.{replicate}
use lib.Ieee.{binary64, of_bits}
use Rattle.engine.specs.Layout.{set_floats}
use Rattle.engine.proofs.Read.{zeros_whole}
use Rattle.lent_packing.proofs.Bands.{bands_given}
use Rattle.lent_packing.proofs.band_floats_at.Goals as goal

pub put_runs-requires : goal.put_runs-requires
put_runs-requires c = record { whole = zeros_whole set_floats; room = lit≤ tt; first_inside = lit≤ tt; second_inside = lit≤ tt }

pub returns : goal.returns
returns c =
    bands_given c.args.numbers.now c.put_runs.new.floats (replicate set_floats (of_bits binary64 0)) refl c.put_runs.ensures
