-- `exports::fonddrys_limit` meets its contract, by that of the function that it calls.
use mathlib.Core.Path.{◌∙◌}
use mir.Facts.{to_z-of_z}
use Rattle.rounding.specs.Rounding.{limit}
use Rattle.exports.proofs.fonddrys_limit.Goals as goal

pub returns : goal.returns
returns c =
    to_z-of_z {w = mir.Syntax.w64} (record { sfits = c.saturate.type_inv })
    ∙ c.saturate.ensures
    ∙ (λ i. limit
    (to_z-of_z c.ranges.low i)
    (to_z-of_z c.ranges.high i)
    (to_z-of_z c.ranges.v i))
