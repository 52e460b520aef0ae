-- Digits read one by one: behind those of a value, what is read is the answer.
use mathlib.Core.Bool.{Bool, true, ◌&&◌}
use mathlib.Core.List.{List, ◌∷◌}
use mathlib.Core.Path.{◌≡◌, sym, ap, ap₂, ◌∙◌}
use Prim.Native.Nat.{ℕ, ◌+◌, ◌*◌, ◌-◌, ◌^◌, ◌≤◌, ◌<◌}
use native.Mathlib.Nat.{lt_of_lt_of_le, pow-le-pow_right, pow-suc, zero-lt-suc}
use native.Mathlib.Numerals.{add-one}
use native.Mathlib.Omega.{arith}
use lib.IntN.{ℤ}
use lib.ListN.{length, get_or, drop}
use lib.Seq.{drop-cons}
use Rattle.std.specs.Prelude.{Option}
use Rattle.integers.specs.Signed.{signed}
use Rattle.fields.specs.Fields.{is_digit, digit_in, value_from}
use Rattle.fields.proofs.Bytes.{digit_in_yes, digit_high}
use Rattle.fields.proofs.Laws.{answer}
use Rattle.field_reading.specs.Scan.{all_digits}

-- what is read behind digits of value v
abbrev pub read_from : Bool → ℕ → List ℕ → Option ℤ
read_from negative v bytes = answer (all_digits bytes) (signed negative (value_from v bytes))

-- k digits, n at most, have a value below 10^n
pub short : (k n value : ℕ) → value < 10 ^ k → k ≤ n → value < 10 ^ n
short k n value h l = lt_of_lt_of_le h (pow-le-pow_right (zero-lt-suc 9) l)

module _ (digits : List ℕ) (i : ℕ) (inside : i < length digits) (negative : Bool) (value : ℕ) where
  -- the same where the first byte is a digit or not, and stands for d
  abbrev read_next : Bool → ℕ → List ℕ → Option ℤ
  read_next t d rest = answer (t && all_digits rest) (signed negative (value_from (10 * value + d) rest))

  -- a digit is one more
  pub one_digit : is_digit (get_or digits i 0) ≡ true
      → read_from negative value (drop i digits) ≡ read_from negative (10 * value + (get_or digits i 0 - 48)) (drop (i + 1) digits)
  one_digit e =
      let d : digit_in (get_or digits i 0) ≡ get_or digits i 0 - 48 = omega (arith, digit_in_yes (get_or digits i 0) e) in
      ap (read_from negative value) (drop-cons digits i 0 inside ∙ ap (λ (k : ℕ). get_or digits i 0 ∷ drop k digits) (sym (add-one i)))
      ∙ ap₂ (λ (t : Bool) (x : ℕ). read_next t x (drop (i + 1) digits)) e d

  -- its value is ten times as much, and that of the digit
  pub longer : value < 10 ^ i → is_digit (get_or digits i 0) ≡ true → 10 * value + (get_or digits i 0 - 48) < 10 ^ (i + 1)
  longer h e = rw (add-one, pow-suc) (omega (arith, digit_high (get_or digits i 0) e))
