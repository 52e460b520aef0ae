-- What reading nine columns gives, by the columns themselves.
use mathlib.Core.Bool.{Bool, true, false, cond, ◌&&◌, ◌||◌, or-false}
use mathlib.Core.List.{List, [], ◌∷◌}
use mathlib.Core.Path.{◌≡◌, refl, sym, ap, ◌∙◌}
use Prim.Native.Nat.{ℕ, suc, ◌+◌, ◌≤◌, ◌<◌}
use native.Mathlib.Omega.{arith}
use lib.Dec.{eqb, ltb, lit<}
use lib.ListN.{length, get_or, take, drop}
use lib.Seq.{drop-drop, length-take-le}
use borrow.Author.Tests.{eq-eqb, ne_eqb, eqb-true, eqb-false, ltb-true}
use Rattle.integers.proofs.Order.{both_true}
use Rattle.fields.specs.Fields.{field_size, last_column, blank, minus, field_read}
use Rattle.field_reading.specs.Scan.{blanks_of, digits_read, number_read, is_long}
use Rattle.field_reading.proofs.Reading.{field_read_last, field_read-signed}

-- there are no more blanks than bytes
blanks_le : (l : List ℕ) → blanks_of l ≤ length l
blanks_le [] = omega arith
blanks_le (b ∷ l) = go (eqb b blank) (blanks_le l)
  where
    go : (t : Bool) → blanks_of l ≤ length l → cond t (suc (blanks_of l)) 0 ≤ suc (length l)
    go true h = omega arith
    go false h = omega arith

module _ (w : List ℕ) (nine : length w ≡ field_size) where
  -- they end before the last column, or are eight
  pub blanks_low : (k : ℕ) → k ≡ blanks_of (take last_column w) → eqb (blanks_of (take last_column w)) last_column ≡ false → k < last_column
  blanks_low k e h =
      omega (arith, blanks_le (take last_column w), length-take-le last_column w (omega arith), eqb-false (blanks_of (take last_column w)) last_column h)

  -- the last column, behind eight blanks
  pub read_last : eqb (blanks_of (take last_column w)) last_column ≡ true → field_read w ≡ digits_read false (drop last_column w)
  read_last e =
      let eight = eqb-true (blanks_of (take last_column w)) last_column e in
      field_read_last w nine (blanks_of (take last_column w)) refl eight ∙ ap (λ (n : ℕ). digits_read false (drop n w)) eight

  -- fewer blanks: a minus or none, and digits
  module _ (k : ℕ) (skipped : k ≡ blanks_of (take last_column w)) (low : k < last_column) where
    pub read_minus : get_or w k 0 ≡ minus → field_read w ≡ number_read true (drop (k + 1) w)
    read_minus e = field_read-signed w nine k skipped low ∙ simp (eq-eqb (get_or w k 0) minus e, drop-drop)

    pub read_plain : (get_or w k 0 ≡ minus → ⊥) → field_read w ≡ number_read false (drop k w)
    read_plain e = field_read-signed w nine k skipped low ∙ simp (ne_eqb (get_or w k 0) minus e)

-- seven digits, behind a blank and a minus, or behind two blanks
module _ (c : ℕ) (r : List ℕ) (six : length r ≡ 6) (above : 48 < c) where
  long_minus : field_read (blank ∷ minus ∷ c ∷ r) ≡ digits_read true (c ∷ r)
  long_minus =
      field_read-signed (blank ∷ minus ∷ c ∷ r) (omega arith) 1 refl (lit< tt) ∙ simp (ne_eqb c 48 (λ e. omega arith))

  long_plain : field_read (blank ∷ blank ∷ c ∷ r) ≡ digits_read false (c ∷ r)
  long_plain =
      field_read-signed (blank ∷ blank ∷ c ∷ r) (omega arith) 2 (simp (ne_eqb c blank (λ e. omega arith))) (lit< tt)
      ∙ simp (ne_eqb c minus (λ e. omega arith), ne_eqb c 48 (λ e. omega arith))

-- the digits, where two columns are blanks and a minus or none, and the third has more than 0
pub read_long : (w : List ℕ) → length w ≡ field_size → is_long w ≡ true → field_read w ≡ digits_read (eqb (get_or w 1 0) minus) (drop 2 w)
read_long [] nine e = absurd (omega arith)
read_long (a ∷ []) nine e = absurd (omega arith)
read_long (a ∷ b ∷ []) nine e = absurd (omega arith)
read_long (a ∷ b ∷ c ∷ r) nine e =
    let both = both_true (eqb a blank && (eqb b blank || eqb b minus)) (ltb 48 c) e in
    let front = both_true (eqb a blank) (eqb b blank || eqb b minus) both.0 in
    let above : 48 < c = ltb-true 48 c both.1 in
    ap (λ (n : ℕ). field_read (n ∷ b ∷ c ∷ r)) (eqb-true a blank front.0) ∙ go (omega arith) above (eqb b minus) refl front.1
  where
    go : length r ≡ 6 → 48 < c → (t : Bool) → eqb b minus ≡ t → eqb b blank || t ≡ true → field_read (blank ∷ b ∷ c ∷ r) ≡ digits_read t (c ∷ r)
    go six above true q h = ap (λ (n : ℕ). field_read (blank ∷ n ∷ c ∷ r)) (eqb-true b minus q) ∙ long_minus c r six above
    go six above false q h =
        ap (λ (n : ℕ). field_read (blank ∷ n ∷ c ∷ r)) (eqb-true b blank (sym (or-false (eqb b blank)) ∙ h)) ∙ long_plain c r six above
