-- What the routines that read a field from the left give. Definitions only.
use Rattle.std.specs.Prelude.{Bool, true, cond, ◌&&◌, ◌||◌, List, [], ◌∷◌, ℕ, suc, eqb, ltb, ℤ, get_or, Option, Some, None}
use Rattle.integers.specs.Signed.{signed}
use Rattle.fields.specs.Fields.{blank, minus, digit, is_digit, value_from}

-- how many blanks the bytes begin with
abbrev pub blanks_of : List ℕ → ℕ
blanks_of [] = 0
blanks_of (byte ∷ rest) = cond (eqb byte blank) (suc (blanks_of rest)) 0

-- every byte is a digit
abbrev pub all_digits : List ℕ → Bool
all_digits [] = true
all_digits (byte ∷ rest) = is_digit byte && all_digits rest

-- the number of some digits, or none where one of the bytes is no digit
unfoldable pub digits_read : Bool → List ℕ → Option ℤ
digits_read negative bytes = cond (all_digits bytes) (Some (signed negative (value_from 0 bytes))) None

-- the number of some digits, or none where they lead with 0 or one of the bytes is no digit
abbrev pub number_read : Bool → List ℕ → Option ℤ
number_read negative bytes = cond (eqb (get_or bytes 0 0) (digit 0)) None (digits_read negative bytes)

-- seven digits may follow in a field: a blank, a blank or a minus, and a byte above the digit 0
abbrev pub is_long : List ℕ → Bool
is_long columns =
    (eqb (get_or columns 0 0) blank && (eqb (get_or columns 1 0) blank || eqb (get_or columns 1 0) minus)) && ltb (digit 0) (get_or columns 2 0)
