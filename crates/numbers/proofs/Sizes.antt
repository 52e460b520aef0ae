-- A flag and a remainder are at most as large as a word.
use mathlib.Core.Path.{◌≡◌}
use mathlib.Core.Bool.{true}
use Prim.Native.Nat.{◌≤◌}
use native.Mathlib.Omega.{arith}
use lib.IntN.{ℤ, nat_abs}
use Rattle.words.specs.Words.{word_size}
use Rattle.unit.specs.Fit.{is_flag, is_remainder}
use Rattle.unit.proofs.Ranges.{flag-size, remainder-size}

pub flag_small : (v : ℤ) → is_flag v ≡ true → nat_abs v ≤ word_size
flag_small = flag-size

pub remainder_small : (v : ℤ) → is_remainder v ≡ true → nat_abs v ≤ word_size
remainder_small v e = omega (arith, remainder-size v e)
