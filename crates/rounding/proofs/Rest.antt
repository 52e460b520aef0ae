-- What is left at a shift as the machine works it, v - 2^k × (v >> k), over the width and the shift: every step fits.
use mathlib.Core.Path.{◌≡◌, sym, subst}
use Prim.Native.Nat.{ℕ, ◌+◌, ◌^◌, ◌≤◌, ◌<◌}
use native.Mathlib.Omega.{arith}
use lib.Pow.{pow_mono}
use lib.IntN.{ℤ, pos, ◌-ℤ◌, ◌*ℤ◌}
use lib.Signed.{mag, shr_z}
use mir.Syntax.{Width}
use mir.Val.{SFits, to_z, of_z, hbits}
use Rattle.integers.proofs.Parts.{linear, var, ⊝◌}
use Rattle.integers.proofs.Machine.{Num, num, unary, binary, binary_need, shr_fits, range_fits}
use Rattle.rounding.specs.Rounding.{floor, rest}
use Rattle.rounding.proofs.Floor.{rest-low, rest_high, multiple_mag}

module _ {w : Width} (i k : ℕ) (wide : i + k ≡ hbits w) (v : ℤ) (fits : SFits w v) where
  pub multiple_fits : SFits w (pos (2 ^ k) *ℤ shr_z v (2 ^ k))
  unfolding floor
  multiple_fits =
      record { sfits = subst (λ (n : ℕ). mag (pos (2 ^ k) *ℤ shr_z v (2 ^ k)) < 2 ^ n) wide (multiple_mag v i k (subst (λ (n : ℕ). mag v < 2 ^ n) (sym wide) fits.sfits)) }

  pub rest-fits : SFits w (v -ℤ pos (2 ^ k) *ℤ shr_z v (2 ^ k))
  unfolding floor rest
  rest-fits =
      let small : 2 ^ k ≤ 2 ^ hbits w = pow_mono (omega (arith, wide)) in
      range_fits (rest v k)
      (omega (linear, rest-low v k, (⊝ var (pos (2 ^ hbits w))).tie))
      (omega (linear, rest_high v k, small))

  abbrev pub Below : Num w
  Below = unary (λ (z : ℤ). shr_z z (2 ^ k)) (num v fits) (shr_fits (2 ^ k) fits)

  -- 2^k, as the code has it
  module _ (bits : ℕ) (reads : to_z w bits ≡ pos (2 ^ k)) where
    abbrev One : Num w
    One = record { bits = bits; value = pos (2 ^ k); reads = reads }

    abbrev Multiple : Num w
    Multiple = binary ◌*ℤ◌ One Below multiple_fits

    abbrev pub Left : Num w
    Left = binary ◌-ℤ◌ (num v fits) Multiple rest-fits

    pub multiple_need : SFits w (to_z w bits *ℤ to_z w Below.bits)
    multiple_need = binary_need ◌*ℤ◌ One Below multiple_fits

    pub rest_need : SFits w (to_z w (of_z w v) -ℤ to_z w Multiple.bits)
    rest_need = binary_need ◌-ℤ◌ (num v fits) Multiple rest-fits

    pub rest_reads : to_z w Left.bits ≡ rest v k
    unfolding floor rest
    rest_reads = Left.reads
