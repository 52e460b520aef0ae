-- What reading a field gives: blanks, then a minus or none, then digits with no leading zero.
use mathlib.Core.Bool.{Bool, true, false, cond, not, ◌&&◌, ◌||◌, and-false, or-false}
use mathlib.Core.List.{List, [], ◌∷◌}
use Rattle.std.specs.Prelude.{Option, None}
use mathlib.Core.Path.{◌≡◌, refl, sym, ap, ap₂, ◌∙◌}
use Prim.Native.Nat.{ℕ, suc, ◌+◌, ◌*◌, ◌<◌}
use native.Mathlib.Omega.{arith}
use lib.Dec.{eqb}
use lib.IntN.{ℤ}
use lib.ListN.{length, get_or, take, drop, length-drop}
use lib.Seq.{get_or-drop}
use native.Mathlib.Nat.{add-zero}
use mir.Val.{bool_byte}
use borrow.Author.Tests.{ne_eqb, eqb-true, eqb-false}
use Rattle.integers.proofs.Order.{both_true}
use Rattle.integers.specs.Signed.{signed}
use Rattle.fields.specs.Fields.{field_size, blank, minus, is_digit, digit_in, value_from, has_minus, number_in, field_read}
use Rattle.fields.proofs.Bytes.{digit_low, digit_in_yes}
use Rattle.fields.proofs.Laws.{answer}
use Rattle.field_reading.specs.Scan.{blanks_of, all_digits, digits_read, number_read}
use Rattle.field_reading.proofs.Fits.{fits, ends}
use Rattle.field_reading.proofs.Scan.{scan, is_field_scan}

-- ---- digits

-- digits have no minus
digits_minus : (l : List ℕ) → all_digits l ≡ true → has_minus l ≡ false
digits_minus [] e = refl
digits_minus (b ∷ l) e =
    let both = both_true (is_digit b) (all_digits l) e in
    ap₂ ◌||◌ (ne_eqb b minus (λ q. omega (arith, digit_low b both.0))) (digits_minus l both.1)

-- where a blank or a minus does not fit, and a digit does not lead with 0, a column that fits is a digit
module _ (v : ℕ) (m : Bool) (b : ℕ) (lead : is_digit b ≡ true → 0 < 10 * v + digit_in b) where
  fits-digit : eqb v 0 && (not m && (eqb b blank || eqb b minus)) ≡ false
      → (s t : Bool) → (is_digit b ≡ true → s ≡ t) → fits v m b && s ≡ is_digit b && t
  unfolding fits
  fits-digit sign s t e = go (is_digit b) refl
    where
      go : (d : Bool) → is_digit b ≡ d → cond d (not (eqb (10 * v + digit_in b) 0)) (eqb v 0 && (not m && (eqb b blank || eqb b minus))) && s ≡ d && t
      go true d = ap₂ (λ (z u : Bool). not z && u) (ne_eqb (10 * v + digit_in b) 0 (λ q. omega (arith, lead d))) (e d)
      go false d = ap (λ (z : Bool). z && s) sign

  ends_digit : ends v m b ≡ is_digit b && true
  unfolding ends
  ends_digit = go (is_digit b) refl
    where
      go : (d : Bool) → is_digit b ≡ d → d && not (m && eqb (10 * v + digit_in b) 0) ≡ d && true
      go true d = ap (λ (z : Bool). not (m && z)) (ne_eqb (10 * v + digit_in b) 0 (λ q. omega (arith, lead d))) ∙ ap not (and-false m)
      go false d = refl

-- and so are all behind it
scan_digits : (r : List ℕ) (b v : ℕ) (m : Bool) → (is_digit b ≡ true → 0 < 10 * v + digit_in b)
    → eqb v 0 && (not m && (eqb b blank || eqb b minus)) ≡ false → scan v m b r ≡ all_digits (b ∷ r)
scan_digits [] b v m lead sign = ends_digit v m b lead
scan_digits (c ∷ r) b v m lead sign =
    fits-digit v m b lead sign (scan (10 * v + digit_in b) (m || eqb b minus) c r) (all_digits (c ∷ r))
    (λ d. scan_digits r c (10 * v + digit_in b) (m || eqb b minus) (λ q. omega (arith, lead d))
    (ap (λ (z : Bool). z && (not (m || eqb b minus) && (eqb c blank || eqb c minus))) (ne_eqb (10 * v + digit_in b) 0 (λ q. omega (arith, lead d)))))

-- ---- what is read, behind a minus or none

-- what the columns b ∷ r make
abbrev reading : Bool → ℕ → List ℕ → Option ℤ
reading m b r = answer (scan 0 m b r) (signed (m || has_minus (b ∷ r)) (value_from 0 (b ∷ r)))

-- where all that fits is digits, the digits are read
reading_digits : (m : Bool) (b : ℕ) (r : List ℕ) → scan 0 m b r ≡ all_digits (b ∷ r) → reading m b r ≡ digits_read m (b ∷ r)
unfolding digits_read
reading_digits m b r e =
    ap (λ (t : Bool). answer t (signed (m || has_minus (b ∷ r)) (value_from 0 (b ∷ r)))) e ∙ go (all_digits (b ∷ r)) refl
  where
    go : (t : Bool) → all_digits (b ∷ r) ≡ t
        → answer t (signed (m || has_minus (b ∷ r)) (value_from 0 (b ∷ r))) ≡ answer t (signed m (value_from 0 (b ∷ r)))
    go true d = ap (λ (t : Bool). answer true (signed t (value_from 0 (b ∷ r)))) (ap (λ (t : Bool). m || t) (digits_minus (b ∷ r) d) ∙ or-false m)
    go false d = refl

-- where a leading 0 is refused, and no blank or minus comes first
reading_number : (m : Bool) (b : ℕ) (r : List ℕ) → not m && (eqb b blank || eqb b minus) ≡ false → scan 0 m 48 r ≡ false
    → reading m b r ≡ number_read m (b ∷ r)
reading_number m b r sign zero-bad = go (eqb b 48) refl
  where
    go : (t : Bool) → eqb b 48 ≡ t → reading m b r ≡ cond t None (digits_read m (b ∷ r))
    go true e =
        let first : scan 0 m b r ≡ false = ap (λ (k : ℕ). scan 0 m k r) (eqb-true b 48 e) ∙ zero-bad in
        ap (λ (t : Bool). answer t (signed (m || has_minus (b ∷ r)) (value_from 0 (b ∷ r)))) first
    go false e = reading_digits m b r (scan_digits r b 0 m (λ d. omega (arith, digit_in_yes b d, eqb-false b 48 e)) sign)

-- ---- the columns in front

-- behind a minus, 0 is refused
zero-refused : (r : List ℕ) → scan 0 true 48 r ≡ false
unfolding fits ends digit_in
zero-refused [] = refl
zero-refused (c ∷ r) = refl

-- a minus or none
signed_first : (c b : ℕ) (r : List ℕ) → eqb c blank ≡ false
    → reading false c (b ∷ r) ≡ number_read (eqb c minus) (drop (bool_byte (eqb c minus)) (c ∷ b ∷ r))
unfolding fits digit_in
signed_first c b r e = go (eqb c minus) refl
  where
    go : (t : Bool) → eqb c minus ≡ t → reading false c (b ∷ r) ≡ number_read t (drop (bool_byte t) (c ∷ b ∷ r))
    go true q = ap (λ (k : ℕ). reading false k (b ∷ r)) (eqb-true c minus q) ∙ reading_number true b r refl (zero-refused r)
    go false q = reading_number false c (b ∷ r) (ap₂ ◌||◌ e q) refl

-- what is read behind the blanks: a last digit, or a minus or none and digits
abbrev opened : List ℕ → Option ℤ
opened [] = None
opened (c ∷ []) = digits_read false (c ∷ [])
opened (c ∷ b ∷ r) = number_read (eqb c minus) (drop (bool_byte (eqb c minus)) (c ∷ b ∷ r))

-- a blank in front counts for nothing
blank_first : (b c : ℕ) (r : List ℕ) (k : ℕ) → reading false c r ≡ opened (drop k (c ∷ r))
    → reading false b (c ∷ r) ≡ opened (drop (cond (eqb b blank) (suc k) 0) (b ∷ c ∷ r))
unfolding fits digit_in
blank_first b c r k rest = go (eqb b blank) refl
  where
    go : (t : Bool) → eqb b blank ≡ t → reading false b (c ∷ r) ≡ opened (drop (cond t (suc k) 0) (b ∷ c ∷ r))
    go true e = ap (λ (n : ℕ). reading false n (c ∷ r)) (eqb-true b blank e) ∙ rest
    go false e = signed_first b c r e

-- and so do all of them
past_blanks : (r : List ℕ) (b : ℕ) → reading false b r ≡ opened (drop (blanks_of (take (length r) (b ∷ r))) (b ∷ r))
unfolding ends
past_blanks [] b = reading_digits false b [] refl
past_blanks (c ∷ r) b = blank_first b c r (blanks_of (take (length r) (c ∷ r))) (past_blanks r c)

-- what reading a field gives
field_read-opened : (w : List ℕ) → length w ≡ field_size → field_read w ≡ opened (drop (blanks_of (take 8 w)) w)
unfolding field_read number_in
field_read-opened [] e = absurd (omega arith)
field_read-opened (b ∷ r) e =
    let rest : length r ≡ 8 = omega arith in
    ap (λ (t : Bool). answer t (number_in (b ∷ r))) (is_field_scan b r e)
    ∙ past_blanks r b ∙ ap (λ (n : ℕ). opened (drop (blanks_of (take n (b ∷ r))) (b ∷ r))) rest

-- a last column is read as a digit
opened_one : (u : List ℕ) → length u ≡ 1 → opened u ≡ digits_read false u
opened_one [] e = absurd (omega arith)
opened_one (c ∷ []) e = refl
opened_one (c ∷ b ∷ r) e = absurd (omega arith)

-- more are read as a minus or none and digits
opened_more : (u : List ℕ) → 1 < length u → opened u ≡ number_read (eqb (get_or u 0 0) minus) (drop (bool_byte (eqb (get_or u 0 0) minus)) u)
opened_more [] h = absurd (omega arith)
opened_more (c ∷ []) h = absurd (omega arith)
opened_more (c ∷ b ∷ r) h = refl

-- eight blanks: the last column is a digit
pub field_read_last : (w : List ℕ) → length w ≡ field_size → (k : ℕ) → k ≡ blanks_of (take 8 w) → k ≡ 8 → field_read w ≡ digits_read false (drop k w)
field_read_last w l k e h =
    field_read-opened w l ∙ ap (λ (n : ℕ). opened (drop n w)) (sym e) ∙ opened_one (drop k w) (omega (arith, length-drop k w))

-- fewer: a minus or none, and digits
pub field_read-signed : (w : List ℕ) → length w ≡ field_size → (k : ℕ) → k ≡ blanks_of (take 8 w) → k < 8
    → field_read w ≡ number_read (eqb (get_or w k 0) minus) (drop (bool_byte (eqb (get_or w k 0) minus)) (drop k w))
field_read-signed w l k e h =
    let first : get_or (drop k w) 0 0 ≡ get_or w k 0 = get_or-drop k w 0 0 ∙ ap (λ (n : ℕ). get_or w n 0) (add-zero k) in
    field_read-opened w l ∙ ap (λ (n : ℕ). opened (drop n w)) (sym e) ∙ opened_more (drop k w) (omega (arith, length-drop k w))
    ∙ ap (λ (c : ℕ). number_read (eqb c minus) (drop (bool_byte (eqb c minus)) (drop k w))) first
