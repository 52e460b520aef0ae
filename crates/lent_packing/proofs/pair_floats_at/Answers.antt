-- `lent_packing::pair_floats_at` meets its contract: the sections of both channels are two runs, and so are x1, x2 and the flag.
use mathlib.Core.Path.{refl}
use lib.Dec.{lit≤}
use lib.ListN.{replicate}
use lib.Ieee.{binary64, of_bits}
use Rattle.engine.specs.Layout.{pair_floats}
use Rattle.engine.proofs.Read.{zeros_whole}
use Rattle.lent_packing.proofs.Channels.{channels_given}
use Rattle.lent_packing.proofs.pair_floats_at.Goals as goal

pub put_runs-requires : goal.put_runs-requires
put_runs-requires c = record { whole = zeros_whole pair_floats; room = lit≤ tt; first_inside = lit≤ tt; second_inside = lit≤ tt }

pub returns : goal.returns
returns c =
    channels_given c.args.numbers.now (replicate pair_floats (of_bits binary64 0)) c.put_runs.new.floats c.put_runs-2.new.floats refl
    c.put_runs.ensures c.put_runs-2.ensures
