-- A number by its sign and its size.
use mathlib.Core.Bool.{Bool, true, false, not}
use mathlib.Core.Path.{◌≡◌, refl, sym, ap, ◌∙◌}
use Prim.Native.Nat.{ℕ, zero, suc, ◌*◌}
use native.Mathlib.Nat.{mul_comm}
use lib.Dec.{leb-suc-zero}
use lib.IntN.{ℤ, pos, negsuc, neg_ℤ, nat_abs, ◌*ℤ◌}
use lib.Signed.{lt_z}
use Rattle.integers.specs.Signed.{signed}
use Rattle.integers.proofs.Abs.{abs_neg}
use Rattle.integers.proofs.Ring.{*ℤ-neg_right}

-- its size
pub abs_signed : (s : Bool) (n : ℕ) → nat_abs (signed s n) ≡ n
abs_signed false n = refl
abs_signed true n = abs_neg (pos n)

-- sign and size make the number
pub signed_abs : (z : ℤ) → signed (lt_z z (pos 0)) (nat_abs z) ≡ z
signed_abs (pos n) = ap (λ (s : Bool). signed s n) (leb-suc-zero n)
signed_abs (negsuc n) = refl

-- the other sign
pub signed-not : (s : Bool) (n : ℕ) → neg_ℤ (signed s n) ≡ signed (not s) n
signed-not false n = refl
signed-not true zero = refl
signed-not true (suc n) = refl

-- m times the size
pub signed_scaled : (s : Bool) (n m : ℕ) → signed s (n * m) ≡ pos m *ℤ signed s n
signed_scaled false n m = ap pos (mul_comm n m)
signed_scaled true n m = ap (λ (k : ℕ). neg_ℤ (pos k)) (mul_comm n m) ∙ sym (*ℤ-neg_right (pos m) (pos n))
