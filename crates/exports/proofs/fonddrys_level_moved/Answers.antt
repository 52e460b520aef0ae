-- `exports::fonddrys_level_moved` meets its contract: the moved number lies between the level's two, so that it fits as they do.
use mathlib.Core.Path.{◌≡◌, sym, ap, ap₂, ◌∙◌, subst}
use lib.IntN.{ℤ, pos}
use mir.Syntax.{w32, w64}
use mir.Val.{SFits, to_z, of_z}
use mir.Facts.{sfits_widen, to_z-of_z}
use lib.Signed.{mag}
use Prim.Native.Nat.{◌<◌, ◌^◌}
use Rattle.integers.proofs.Parts.{linear}
use Rattle.integers.proofs.Abs.{mag_low, mag_high}
use Rattle.integers.proofs.Machine.{num, unary_need, unary_reads, range_fits}
use Rattle.levels.specs.declared.Level.{Level}
use Rattle.levels.specs.Levels.{ramp}
use Rattle.levels.proofs.Laws.{ramp-low, ramp_high}
use Rattle.exports.proofs.fonddrys_level_moved.Goals.{After-moved, Start}
use Rattle.exports.proofs.fonddrys_level_moved.Goals as goal

-- ---- the level

module _ (s : Start) where
  -- the moved number lies between the two, so that it fits as they do
  ramp-fits : SFits w32 (ramp s.args.slope s.args.present s.args.target)
  ramp-fits =
      range_fits (ramp s.args.slope s.args.present s.args.target)
      (ramp-low s.args.slope s.args.present s.args.target (mag_low s.args.present s.ranges.present.sfits) (mag_low s.args.target s.ranges.target.sfits))
      (omega (
        linear,
        ramp_high s.args.slope s.args.present s.args.target {high = pos 2147483647}
            (omega (linear, mag_high s.args.present s.ranges.present.sfits))
            (omega (linear, mag_high s.args.target s.ranges.target.sfits)),
      ))

-- ---- the number after the move

module _ (c : After-moved) where
  -- a number of 32 bits, widened
  wide : {v z : ℤ} → mag v < 2 ^ 63 → SFits w32 z → v ≡ to_z w32 (of_z w32 z) → to_z w64 (of_z w64 v) ≡ z
  wide fits small e = to_z-of_z {w = w64} (record { sfits = fits }) ∙ e ∙ to_z-of_z {w = w32} small

  after_is : c.moved.result.present ≡ ramp c.args.slope c.args.present c.args.target
  after_is =
      ap (λ (l : Level). l.present) c.moved.ensures
      ∙ ap₂ (ramp c.args.slope) (wide c.from.type_inv c.ranges.present c.from.ensures) (wide c.from-2.type_inv c.ranges.target c.from-2.ensures)

pub overflow_cast-result : goal.overflow_cast-result
overflow_cast-result c =
    let m = (goal.at.overflow_cast-result c).After-moved in
    let fits = subst (λ (z : ℤ). SFits w32 z) (sym (after_is m)) (ramp-fits (goal.at.overflow_cast-result c).Start) in
    unary_need (λ (z : ℤ). z) (num {w = w64} c.moved.result.present (sfits_widen tt fits)) fits

pub returns : goal.returns
returns c =
    let m = (goal.at.returns c).After-moved in
    let fits = subst (λ (z : ℤ). SFits w32 z) (sym (after_is m)) (ramp-fits (goal.at.returns c).Start) in
    unary_reads (λ (z : ℤ). z) (num {w = w64} c.moved.result.present (sfits_widen tt fits)) fits ∙ after_is m
