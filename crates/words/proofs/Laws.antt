-- What the test of a word tells, in the form of bounds.
use mathlib.Core.Path.{◌≡◌}
use mathlib.Core.Bool.{true}
use Prim.Native.Nat.{◌≤◌}
use lib.IntN.{ℤ, nat_abs}
use lib.Signed.{◌≤ℤ◌}
use mir.Syntax.{w32, w64}
use mir.Val.{SFits, to_z, of_z}
use Rattle.integers.proofs.Parts.{linear}
use Rattle.integers.proofs.Abs.{abs_le}
use Rattle.integers.proofs.Machine.{num, below-fits, unary_need, unary_reads}
use Rattle.rounding.proofs.Limit.{within_bounds}
use Rattle.words.specs.Words.{word_size, word_low, word_high, is_word}

-- a word is at most 2^23 in size
pub word_size_lem : (v : ℤ) → is_word v ≡ true → nat_abs v ≤ word_size
word_size_lem v e = abs_le v word_size bounds.0 (omega (linear, bounds.1))
  where
    bounds : (word_low ≤ℤ v) × (v ≤ℤ word_high)
    bounds = within_bounds word_low word_high v e

-- a number of that size loses nothing in 32 bits
module _ (z : ℤ) (size : nat_abs z ≤ word_size) where
  pub narrow_need : SFits w32 (to_z w64 (of_z w64 z))
  narrow_need = unary_need {u = w64} (λ (x : ℤ). x) (num z (below-fits size tt)) (below-fits size tt)

  pub narrow_reads : to_z w32 (of_z w32 (to_z w64 (of_z w64 z))) ≡ z
  narrow_reads = unary_reads {u = w64} {w = w32} (λ (x : ℤ). x) (num z (below-fits size tt)) (below-fits size tt)
