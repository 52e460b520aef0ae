-- `exports::fonddrys_nearest` meets its contract, by that of the function that it calls.
use mathlib.Core.Path.{ap, ◌∙◌}
use lib.IntN.{ℤ}
use mir.Facts.{to_z-of_z}
use Rattle.rounding.specs.Rounding.{nearest}
use Rattle.exports.proofs.fonddrys_nearest.Goals as goal

pub returns : goal.returns
returns c =
    to_z-of_z {w = mir.Syntax.w64} (record { sfits = c.round_shift.type_inv })
    ∙ c.round_shift.ensures
    ∙ ap (λ (z : ℤ). nearest z c.args.k) (to_z-of_z c.ranges.v)
