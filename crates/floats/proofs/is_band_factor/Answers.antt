-- `floats::is_band_factor` meets its contract: its two tests are those of the definition.
use mathlib.Core.Path.{sym, ap, ◌∙◌}
use mathlib.Core.Bool.{Bool, false, ◌&&◌}
use lib.IntN.{pos}
use lib.Ieee.{fin, of_bits, neg, lt}
use Rattle.floats.proofs.Range.{band_tests}
use Rattle.floats.proofs.is_band_factor.Goals as goal

pub returns-then-f : goal.returns-then-f
unfolding of_bits neg
returns-then-f c = sym (ap (λ (b : Bool). b && lt c.args.f (fin false 1 (pos 0))) c.if-f.true) ∙ band_tests c.args.f c.well_formed.0.1

pub returns-else-f : goal.returns-else-f
unfolding of_bits neg
returns-else-f c = c.if-f.false ∙ sym (ap (λ (b : Bool). b && lt c.args.f (fin false 1 (pos 0))) c.if-f.false) ∙ band_tests c.args.f c.well_formed.0.1
