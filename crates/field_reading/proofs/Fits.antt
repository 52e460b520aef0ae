-- A column looked at behind those to its left: whether it fits them, against whether it is the column that the number has there.
-- S is whether those to its left are right, for a minus owed by them or not.
use mathlib.Core.Bool.{Bool, true, false, cond, not, ◌&&◌, ◌||◌, true≢false, and-true, and-false, or-false, or-true}
use mathlib.Core.Path.{◌≡◌, refl, sym, ap, ◌∙◌}
use Prim.Native.Nat.{ℕ, zero, suc, ◌+◌, ◌*◌, ◌%◌, ◌<◌}
use native.Mathlib.Omega.{arith}
use lib.Dec.{eqb, eqb-suc-zero}
use borrow.Author.Tests.{eq-eqb, ne_eqb}
use Rattle.fields.specs.Fields.{blank, minus, digit, is_digit, digit_in, column, owed_still}
use Rattle.fields.proofs.Bytes.{digit_low, digit_high, digit_yes, digit_in_yes, digit_in_no}
use Rattle.fields.proofs.Columns.{column_some, still_some}

-- nothing is left: nothing is owed any more
still_none : (owed : Bool) → owed_still 0 owed ≡ false
unfolding owed_still
still_none true = refl
still_none false = refl

-- a column fits behind columns of value v, with a minus or without: a digit, no leading zero; or else a blank or a minus, in front of both
unfoldable pub fits : ℕ → Bool → ℕ → Bool
fits v m b = cond (is_digit b) (not (eqb (10 * v + digit_in b) 0)) (eqb v 0 && (not m && (eqb b blank || eqb b minus)))

-- the last column is a digit, and no minus stands before 0
unfoldable pub ends : ℕ → Bool → ℕ → Bool
ends v m b = is_digit b && not (m && eqb (10 * v + digit_in b) 0)

-- a digit is no minus and no blank
digit_no_sign : (b : ℕ) (t : Bool) → is_digit b ≡ true → eqb b (cond t minus blank) ≡ false
digit_no_sign b true d = ne_eqb b minus (λ e. omega (arith, digit_low b d))
digit_no_sign b false d = ne_eqb b blank (λ e. omega (arith, digit_low b d))

-- another byte is no digit's byte
other_no_digit : (b n : ℕ) → is_digit b ≡ false → n < 10 → eqb b (digit n) ≡ false
other_no_digit b n d h = ne_eqb b (digit n) (λ e. true≢false (sym (digit_yes b (omega arith) (omega arith)) ∙ d))

-- a blank or a minus is the column of 0 that owes a minus where the byte is one
sign_column : (b : ℕ) (t : Bool) → eqb b minus ≡ t → eqb b (cond t minus blank) ≡ eqb b blank || t
sign_column b true e = e ∙ sym (or-true (eqb b blank))
sign_column b false e = sym (or-false (eqb b blank))

-- the digit of a value with one digit more
last_digit : (b v k : ℕ) → k ≡ 10 * v + digit_in b → is_digit b ≡ true → b ≡ digit (k % 10)
last_digit b v k e d = omega (arith, digit_in_yes b d, digit_high b d)

-- where nothing is left, a blank or a minus fits only in front
sign_fits : (S : Bool → Bool) (m : Bool) (b : ℕ) → (m ≡ true → S false ≡ false)
    → S (owed_still 0 (m || eqb b minus)) && eqb b (column 0 (m || eqb b minus)) ≡ S m && (not m && (eqb b blank || eqb b minus))
unfolding column
sign_fits S true b h = ap (λ (t : Bool). S t && eqb b minus) (still_none true) ∙ ap (λ (t : Bool). t && eqb b minus) (h refl) ∙ sym (and-false (S true))
sign_fits S false b h =
    ap (λ (t : Bool). S t && eqb b (cond (eqb b minus) minus blank)) (still_none (eqb b minus))
    ∙ ap (λ (t : Bool). S false && t) (sign_column b (eqb b minus) refl)

-- a minus before 0 is none of the number's
zero-fits : (S : Bool → Bool) (m owed : Bool) → (m ≡ true → S false ≡ false) → S (owed_still 0 owed) ≡ S m && not (m && true)
zero-fits S true owed h = ap S (still_none owed) ∙ h refl ∙ sym (and-false (S true))
zero-fits S false owed h = ap S (still_none owed) ∙ sym (and-true (S false))

module _ (S : Bool → Bool) (m : Bool) (b v : ℕ) (no_minus : m ≡ true → v ≡ 0 → S false ≡ false) where
  -- a digit fits where it leaves no 0 in front
  digit-fits : (k : ℕ) → k ≡ 10 * v + digit_in b → is_digit b ≡ true
      → S (owed_still k (m || eqb b minus)) && eqb b (column k (m || eqb b minus)) ≡ S m && not (eqb k 0)
  unfolding column
  digit-fits zero e d = simp (digit_no_sign b (m || eqb b minus) d, and-false)
  digit-fits (suc k) e d =
      simp (digit_no_sign b true d, or-false, still_some, eq-eqb b (digit (suc k % 10)) (last_digit b v (suc k) e d), eqb-suc-zero, and-true)

  -- another byte fits where it is a blank or a minus in front
  other_fits : (k : ℕ) → k ≡ 10 * v + digit_in b → is_digit b ≡ false
      → S (owed_still k (m || eqb b minus)) && eqb b (column k (m || eqb b minus)) ≡ S m && (eqb v 0 && (not m && (eqb b blank || eqb b minus)))
  other_fits zero e d =
      let none : v ≡ 0 = omega arith in
      sign_fits S m b (λ t. no_minus t none) ∙ sym (ap (λ (t : Bool). S m && (t && (not m && (eqb b blank || eqb b minus)))) (eq-eqb v 0 none))
  other_fits (suc k) e d =
      simp (column_some, other_no_digit b (suc k % 10) d (omega arith), ne_eqb v 0 (λ q. omega (arith, digit_in_no b d)), and-false)

  -- a column is the number's where it fits
  pub column_fits : S (owed_still (10 * v + digit_in b) (m || eqb b minus)) && eqb b (column (10 * v + digit_in b) (m || eqb b minus)) ≡ S m && fits v m b
  unfolding fits
  column_fits = go (is_digit b) refl
    where
      go : (d : Bool) → is_digit b ≡ d
          → S (owed_still (10 * v + digit_in b) (m || eqb b minus)) && eqb b (column (10 * v + digit_in b) (m || eqb b minus))
          ≡ S m && cond d (not (eqb (10 * v + digit_in b) 0)) (eqb v 0 && (not m && (eqb b blank || eqb b minus)))
      go true d = digit-fits (10 * v + digit_in b) refl d
      go false d = other_fits (10 * v + digit_in b) refl d

  -- behind a last digit the minus is right where the number is not 0
  last_fits : (k : ℕ) → k ≡ 10 * v + digit_in b → is_digit b ≡ true
      → S (owed_still k (m || eqb b minus)) ≡ S m && not (m && eqb k 0)
  last_fits zero e d = zero-fits S m (m || eqb b minus) (λ t. no_minus t (omega arith))
  last_fits (suc k) e d = simp (digit_no_sign b true d, or-false, still_some, eqb-suc-zero, and-false, and-true)

  -- a last digit is the number's where it ends it
  pub column_ends : S (owed_still (10 * v + digit_in b) (m || eqb b minus)) && eqb b (digit ((10 * v + digit_in b) % 10)) ≡ S m && ends v m b
  unfolding ends
  column_ends = go (is_digit b) refl
    where
      go : (d : Bool) → is_digit b ≡ d
          → S (owed_still (10 * v + digit_in b) (m || eqb b minus)) && eqb b (digit ((10 * v + digit_in b) % 10))
          ≡ S m && (d && not (m && eqb (10 * v + digit_in b) 0))
      go true d =
          ap (λ (t : Bool). S (owed_still (10 * v + digit_in b) (m || eqb b minus)) && t)
          (eq-eqb b (digit ((10 * v + digit_in b) % 10)) (last_digit b v (10 * v + digit_in b) refl d))
          ∙ and-true (S (owed_still (10 * v + digit_in b) (m || eqb b minus)))
          ∙ last_fits (10 * v + digit_in b) refl d
      go false d =
          ap (λ (t : Bool). S (owed_still (10 * v + digit_in b) (m || eqb b minus)) && t) (other_no_digit b ((10 * v + digit_in b) % 10) d (omega arith))
          ∙ and-false (S (owed_still (10 * v + digit_in b) (m || eqb b minus))) ∙ sym (and-false (S m))
