-- `exports::fonddrys_band_refusal` meets its contract, by those of the two functions that it calls.
use mathlib.Core.Path.{ap, ◌∙◌}
use Rattle.refusals.specs.Numbers.{number_of}
use Rattle.bands.specs.Bands.{band_verdict}
use Rattle.lending.proofs.Laws.{band_reads}
use Rattle.exports.proofs.fonddrys_band_refusal.Goals as goal

pub returns : goal.returns
returns c =
    c.number.ensures
    ∙ ap number_of
    (c.check_band.ensures
    ∙ ap band_verdict (band_reads c.ranges.alpha c.ranges.beta c.ranges.gamma))
