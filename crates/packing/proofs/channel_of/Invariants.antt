-- `packing::channel_of` meets its contract. The loop's invariant: the sections below b are those of the side.
use Rattle.lists.proofs.Loops.{Tabulated}
use Rattle.bands.specs.Bands.{band_count}
use Rattle.engine.specs.Layout.{section_at_side}
use Rattle.packing.specs.Packing.{pair_side}
use Rattle.packing.proofs.channel_of.Given as goal

abbrev pub invariant-loop-b : goal.invariant-loop-b
invariant-loop-b l = Tabulated (section_at_side l.pair (pair_side l.side)) band_count l.sections l.b
