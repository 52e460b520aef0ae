-- `lent_fitness::bands_fit` meets its contract. The loop's invariant: the test of every band is that of the bands from b on.
use Rattle.lists.proofs.Loops.{EveryFrom}
use Rattle.unit.specs.Cleared.{bands_of}
use Rattle.unit.specs.Fit.{band_fits}
use Rattle.lent_fitness.proofs.bands_fit.Given as goal

abbrev pub invariant-loop-b : goal.invariant-loop-b
invariant-loop-b l = EveryFrom band_fits (bands_of l.set) 0 l.b
