-- `levels::ramp` meets its contract: what it computes is the number of `nearest_within`.
use mathlib.Core.Path.{◌≡◌}
use native.Mathlib.Omega.{arith}
use lib.IntN.{pos}
use mir.Syntax.{w64}
use mir.Val.{SFits, to_z}
use mir.Facts.{to_z-of_z}
use Rattle.std.proofs.lemmas.Int.{ints}
use Rattle.levels.proofs.Laws.{nearest_within}
use Rattle.levels.proofs.ramp.Goals as goal

pub returns : goal.returns
returns c =
    let low : SFits w64 c.saturating_sub-low.result = record { sfits = c.saturating_sub-low.type_inv } in
    let high : SFits w64 c.saturating_add-high.result = record { sfits = c.saturating_add-high.type_inv } in
    let greater : SFits w64 c.max.result = record { sfits = c.max.type_inv } in
    let lesser : SFits w64 c.min.result = record { sfits = c.min.type_inv } in
    let step : to_z w64 c.args.slope ≡ pos c.args.slope = omega (arith, ints) in
    cc (
      nearest_within c.args.slope c.args.present c.args.target c.ranges.present c.ranges.target,
      to_z-of_z c.ranges.present,
      to_z-of_z c.ranges.target,
      to_z-of_z low,
      to_z-of_z high,
      to_z-of_z greater,
      to_z-of_z lesser,
      step,
      c.saturating_sub-low.ensures,
      c.saturating_add-high.ensures,
      c.max.ensures.value,
      c.min.ensures.value,
    )
