-- `loading::check_bands` meets its contract. The loop's invariant: the verdict of the bands is that of the bands from here on.
use mathlib.Core.Path.{◌≡◌}
use lib.ListN.{drop}
use Rattle.unit.specs.Fit.{bands_verdict}
use Rattle.loading.proofs.check_bands.Given as goal

abbrev pub invariant-loop-band : goal.invariant-loop-band
invariant-loop-band l = bands_verdict l.bands ≡ bands_verdict (drop l.band-index l.bands)
