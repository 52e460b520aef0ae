-- `unit::bands_of` meets its contract. The loop's invariant: the bands below b are the set's.
use Rattle.lists.proofs.Loops.{Tabulated}
use Rattle.bands.specs.Bands.{band_count, band_at}
use Rattle.unit.proofs.bands_of.Given as goal

abbrev pub invariant-loop-b : goal.invariant-loop-b
invariant-loop-b l = Tabulated (band_at l.set) band_count l.bands l.b
