-- The result and the remainder in floats: S over 2^22 rounded to a whole number, the comparisons that limit it, and S less 2^22 times it are those of
-- the section.
use mathlib.Core.Path.{◌≡◌, sym, ap₂, ◌∙◌}
use mathlib.Core.Bool.{Bool, false, cond}
use Prim.Native.Nat.{◌^◌, ◌≤◌, ◌<◌}
use native.Mathlib.Nat.{le_trans, lt_of_le_of_lt}
use lib.Dec.{lit≤, lit<}
use lib.IntN.{ℤ, pos, nat_abs}
use lib.Signed.{lt_z}
use lib.Ieee.{Float, fin, binary64, prec, of_int, lt, sub, mul, div}
use Rattle.integers.proofs.Machine.{product_sized}
use Rattle.rounding.specs.Rounding.{nearest, taken, limit}
use Rattle.rounding.proofs.Nearest.{nearest-size}
use Rattle.words.specs.Words.{word_low, word_high}
use Rattle.floats.specs.Whole.{float, NearestWholeAsks, whole_of}
use Rattle.floats.proofs.WholeNumbers.{Whole, of_whole, sub_whole, mul_whole, lt_whole}
use Rattle.floats.proofs.Quotient.{quotient_roundable, quotient_whole}
use Rattle.section.specs.Equation.{sum_shift}
use Rattle.section.specs.Asks.{sum_size}

-- 2^22, S over it, and S less 2^22 times a number, as the code works them
abbrev pub scale : Float
scale = fin false 1 (pos sum_shift)

scale_whole : Whole scale (pos (2 ^ sum_shift))
unfolding of_int
scale_whole = of_whole binary64 (pos (2 ^ sum_shift)) (lit≤ tt)

abbrev pub quotient_of : Float → Float
quotient_of sum = div binary64 sum scale

abbrev pub left_over : Float → Float → Float
left_over sum rounded = sub binary64 sum (mul binary64 scale rounded)

-- an S of at most 2^48 in size
module _ (S : ℤ) (small : nat_abs S ≤ sum_size) where
  sum_below : nat_abs S < 2 ^ prec binary64
  sum_below = lt_of_le_of_lt small (lit< tt)

  sum_whole : Whole (float S) S
  sum_whole = of_whole binary64 S (le_trans small (lit≤ tt))

  pub roundable : NearestWholeAsks (quotient_of (float S))
  roundable = quotient_roundable sum_shift (float S) S (lit≤ tt) (lit≤ tt) sum_whole sum_below

  pub quotient_rounds : whole_of (quotient_of (float S)) ≡ nearest S sum_shift
  quotient_rounds = quotient_whole sum_shift (float S) S (lit≤ tt) (lit≤ tt) sum_whole sum_below

  pub rounded_size : nat_abs (nearest S sum_shift) ≤ 2 ^ 26
  rounded_size = nearest-size S sum_shift (2 ^ 26) small

  -- the product and the difference are whole, and the difference is no minus zero
  pub remainder_is : left_over (float S) (float (nearest S sum_shift)) ≡ float (taken S sum_shift)
  unfolding taken
  remainder_is =
      sub_whole binary64 S (le_trans small (lit≤ tt))
      (mul_whole binary64 scale_whole (of_whole binary64 (nearest S sum_shift) (le_trans rounded_size (lit≤ tt)))
      (le_trans (product_sized (pos (2 ^ sum_shift)) (nearest S sum_shift) {m = 2 ^ sum_shift} (lit≤ tt) rounded_size) (lit≤ tt)))

-- a whole number, limited by the tests of its float against the ends of a word
module _ (z : ℤ) (small : nat_abs z ≤ 2 ^ prec binary64) where
  below-low : lt (float z) (float word_low) ≡ lt_z z word_low
  below-low = lt_whole (of_whole binary64 z small) (of_whole binary64 word_low (lit≤ tt))

  above_high : lt (float word_high) (float z) ≡ lt_z word_high z
  above_high = lt_whole (of_whole binary64 word_high (lit≤ tt)) (of_whole binary64 z small)

  pub chosen : (l h : Bool) → lt (float z) (float word_low) ≡ l → lt (float word_high) (float z) ≡ h → cond l word_low (cond h word_high z) ≡ limit word_low word_high z
  unfolding limit
  chosen l h e d = ap₂ (λ (a b : Bool). cond a word_low (cond b word_high z)) (sym e ∙ below-low) (sym d ∙ above_high)
