-- `section::step_sum` meets its contract: S of the numbers as they are read.
use mathlib.Core.Path.{◌≡◌, ◌∙◌}
use lib.IntN.{ℤ, nat_abs}
use lib.Signed.{mag}
use Prim.Native.Nat.{◌<◌, ◌≤◌, ◌^◌}
use mir.Facts.{to_z-of_z}
use mir.Syntax.{w32, w64}
use mir.Val.{to_z, of_z}
use Rattle.integers.proofs.Machine.{below-fits}
use Rattle.words.specs.Words.{word_size}
use Rattle.bands.specs.Bands.{band_of}
use Rattle.section.specs.Equation.{exact_sum}
use Rattle.section.proofs.step_sum.Goals as goal

-- a number of 64 bits that is known to be z is read as z
reads : {v z : ℤ} → mag v < 2 ^ 63 → v ≡ z → to_z w64 (of_z w64 v) ≡ z
reads fits e = to_z-of_z {w = w64} (record { sfits = fits }) ∙ e

-- so is an operand, which is widened
operand : {v : ℤ} (z : ℤ) → mag v < 2 ^ 63 → nat_abs z ≤ word_size → v ≡ to_z w32 (of_z w32 z) → to_z w64 (of_z w64 v) ≡ z
operand z fits small e = reads fits (e ∙ to_z-of_z {w = w32} (below-fits small tt))

pub returns : goal.returns
returns c =
    reads c.exact_sum.type_inv c.exact_sum.ensures
    ∙ (λ i.
    exact_sum
    (band_of (operand c.args.section.band.alpha c.from.type_inv c.requires.alpha_size c.from.ensures i) (operand c.args.section.band.beta c.from-2.type_inv c.requires.beta_size c.from-2.ensures i) (operand c.args.section.band.gamma c.from-3.type_inv c.requires.gamma_size c.from-3.ensures i))
    (operand c.args.x c.from-4.type_inv c.requires.x_size c.from-4.ensures i)
    (operand c.args.section.x2 c.from-5.type_inv c.requires.x2_size c.from-5.ensures i)
    (operand c.args.section.y1 c.from-6.type_inv c.requires.y1_size c.from-6.ensures i)
    (operand c.args.section.y2 c.from-7.type_inv c.requires.y2_size c.from-7.ensures i))
