-- `floats::is_volume_factor` meets its contract: its test and that of a band are those of the definition.
use mathlib.Core.Path.{sym, ap, ◌∙◌}
use mathlib.Core.Bool.{Bool, ◌&&◌}
use lib.Ieee.{of_bits}
use Rattle.floats.specs.Value.{is_factor, band_lowest}
use Rattle.floats.proofs.Range.{volume_tests}
use Rattle.floats.proofs.is_volume_factor.Goals as goal

pub returns-then-f : goal.returns-then-f
unfolding of_bits
returns-then-f c =
    c.is_band_factor.ensures
    ∙ sym (ap (λ (b : Bool). b && is_factor band_lowest c.args.f) c.if-f.true)
    ∙ volume_tests c.args.f c.well_formed.0.1

pub returns-else-f : goal.returns-else-f
unfolding of_bits
returns-else-f c =
    c.if-f.false
    ∙ sym (ap (λ (b : Bool). b && is_factor band_lowest c.args.f) c.if-f.false)
    ∙ volume_tests c.args.f c.well_formed.0.1
