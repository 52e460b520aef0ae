-- `packing::band_floats` meets its contract. The loop's invariant: the bands below b are stored.
use Rattle.packing.proofs.Bands.{Filled}
use Rattle.packing.proofs.band_floats.Given as goal

abbrev pub invariant-loop-b : goal.invariant-loop-b
invariant-loop-b l = Filled l.bands l.b l.floats
