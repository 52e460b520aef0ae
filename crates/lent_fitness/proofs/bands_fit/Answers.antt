-- `lent_fitness::bands_fit` meets its contract: band b is accepted.
use mathlib.Core.Path.{◌≡◌, sym, ap, ◌∙◌}
use mathlib.Core.Bool.{true, not}
use native.Mathlib.Omega.{arith}
use Rattle.lists.proofs.Loops.{every-passes}
use Rattle.lists.proofs.Tabulate.{tabulate-at}
use Rattle.refusals.specs.Numbers.{is_accepted}
use Rattle.bands.specs.Bands.{band_count, band_at, band_verdict}
use Rattle.unit.specs.Fit.{band_fits}
use Rattle.unit.proofs.PastEnd.{zero_band}
use Rattle.lent_fitness.proofs.bands_fit.Goals as goal

pub loop-b-preserved : goal.loop-b-preserved
loop-b-preserved c =
    every-passes c.loop-b.invariant zero_band (omega arith)
    (ap band_fits (sym (tabulate-at band_count (band_at c.args.set.now) zero_band c.loop-b.b (omega arith))))
    (ap not accepted)
  where
    accepted : band_fits (band_at c.args.set.now c.loop-b.b) ≡ true
    accepted = ap is_accepted (sym (c.check_band.ensures ∙ ap band_verdict c.band_at.ensures)) ∙ c.is_err.ensures.negation ∙ ap not c.if-is_err.false
