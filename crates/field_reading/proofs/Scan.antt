-- Nine columns looked at from the left: they are well written where each fits behind those before it.
use mathlib.Core.Bool.{Bool, true, false, ◌&&◌, ◌||◌, true≢false, and-true, and_assoc, or-false, or_assoc}
use mathlib.Core.List.{List, [], ◌∷◌, ◌++◌}
use mathlib.Core.Path.{◌≡◌, refl, sym, ap, ap₂, ◌∙◌}
use Prim.Native.Nat.{ℕ, zero, suc, ◌+◌, ◌*◌, ◌/◌, ◌%◌}
use native.Mathlib.Numerals.{add-one}
use native.Mathlib.Omega.{arith}
use lib.Dec.{eqb, leb-suc-zero}
use lib.IntN.{pos}
use lib.ListN.{length, length-append}
use lib.Seq.{append_snoc}
use lib.Signed.{lt_z}
use Rattle.integers.specs.Signed.{signed}
use Rattle.integers.proofs.Signed.{abs_signed}
use Rattle.fields.specs.Fields.{field_size, minus, digit, digit_in, column, owed_still, columns, field, value_from, has_minus, number_in, is_field, same_bytes}
use Rattle.fields.proofs.Bytes.{same_eq, digit_in-low, minus_append}
use Rattle.fields.proofs.Columns.{columns-length, columns-none, still_some}
use Rattle.field_reading.proofs.Fits.{fits, ends, column_fits, column_ends}

-- one byte more
same_snoc : (l k : List ℕ) (a b : ℕ) → length l ≡ length k → same_bytes (l ++ (a ∷ [])) (k ++ (b ∷ [])) ≡ same_bytes l k && eqb a b
same_snoc [] [] a b e = and-true (eqb a b)
same_snoc [] (y ∷ k) a b e = absurd (omega arith)
same_snoc (x ∷ l) [] a b e = absurd (omega arith)
same_snoc (x ∷ l) (y ∷ k) a b e =
    ap (λ (t : Bool). eqb x y && t) (same_snoc l k a b (omega arith)) ∙ sym (and_assoc (eqb x y) (same_bytes l k) (eqb a b))

-- the columns b ∷ r fit behind columns of value v, with a minus or without
abbrev pub scan : ℕ → Bool → ℕ → List ℕ → Bool
scan v m b [] = ends v m b
scan v m b (c ∷ r) = fits v m b && scan (10 * v + digit_in b) (m || eqb b minus) c r

-- ---- the field of a number given by sign and magnitude

-- it is negative where a minus is owed
negative_signed : (m : Bool) (k : ℕ) → lt_z (signed m k) (pos 0) ≡ owed_still k m
unfolding owed_still
negative_signed true zero = refl
negative_signed true (suc k) = sym (still_some k true)
negative_signed false k = leb-suc-zero k

-- its field
field-signed : (m : Bool) (k : ℕ) → field (signed m k) ≡ columns 8 (k / 10) (owed_still k m) ++ (digit (k % 10) ∷ [])
unfolding field
field-signed m k =
    ap₂ (λ (n : ℕ) (t : Bool). columns 8 (n / 10) t ++ (digit (n % 10) ∷ [])) (abs_signed m k) (negative_signed m k)

-- ---- one column more

-- the columns before it are right where they have the value v, and a minus or none
module _ (p : List ℕ) (n v : ℕ) (m : Bool) (long : length p ≡ n) (signs : has_minus p ≡ m) where
  -- where they have a minus, they are not blanks
  not-blank : m ≡ true → v ≡ 0 → same_bytes p (columns n v false) ≡ false
  not-blank t e = go (same_bytes p (columns n v false)) refl
    where
      go : (s : Bool) → same_bytes p (columns n v false) ≡ s → s ≡ false
      go true q =
          let none : has_minus p ≡ false =
          ap has_minus (same_eq p (columns n v false) q) ∙ ap (λ (k : ℕ). has_minus (columns n k false)) e ∙ columns-none n in
          absurd (true≢false (sym t ∙ sym signs ∙ none))
      go false q = refl

  module _ (b : ℕ) where
    -- without the digit the value is that of the columns before
    shorter : (10 * v + digit_in b) / 10 ≡ v
    shorter = omega (arith, digit_in-low b)

    -- the columns with it are right where those before are and it fits
    step : same_bytes (p ++ (b ∷ [])) (columns (suc n) (10 * v + digit_in b) (m || eqb b minus)) ≡ same_bytes p (columns n v m) && fits v m b
    unfolding columns
    step =
        let k = 10 * v + digit_in b in
        let owed = owed_still (10 * v + digit_in b) (m || eqb b minus) in
        same_snoc p (columns n (k / 10) owed) b (column k (m || eqb b minus)) (long ∙ sym (columns-length n (k / 10) owed))
        ∙ ap (λ (j : ℕ). same_bytes p (columns n j owed) && eqb b (column k (m || eqb b minus))) shorter
        ∙ column_fits (λ (t : Bool). same_bytes p (columns n v t)) m b v not-blank

    -- all nine are right where those before the last are and it ends the number
    last : n ≡ 8 → same_bytes (p ++ (b ∷ [])) (field (signed (m || eqb b minus) (10 * v + digit_in b))) ≡ same_bytes p (columns n v m) && ends v m b
    last e =
        let k = 10 * v + digit_in b in
        let owed = owed_still (10 * v + digit_in b) (m || eqb b minus) in
        ap (same_bytes (p ++ (b ∷ []))) (field-signed (m || eqb b minus) k ∙ ap (λ (j : ℕ). columns j (k / 10) owed ++ (digit (k % 10) ∷ [])) (sym e))
        ∙ same_snoc p (columns n (k / 10) owed) b (digit (k % 10)) (long ∙ sym (columns-length n (k / 10) owed))
        ∙ ap (λ (j : ℕ). same_bytes p (columns n j owed) && eqb b (digit (k % 10))) shorter
        ∙ column_ends (λ (t : Bool). same_bytes p (columns n v t)) m b v not-blank

-- ---- all columns

-- columns p, of value v, with a minus or none, and more behind them
scan_is : (r : List ℕ) (b : ℕ) (p : List ℕ) (n v : ℕ) (m : Bool) → length p ≡ n → has_minus p ≡ m → n + length r ≡ 8
    → same_bytes (p ++ b ∷ r) (field (signed (m || has_minus (b ∷ r)) (value_from v (b ∷ r)))) ≡ same_bytes p (columns n v m) && scan v m b r
scan_is [] b p n v m l s e =
    ap (λ (t : Bool). same_bytes (p ++ (b ∷ [])) (field (signed (m || t) (10 * v + digit_in b)))) (or-false (eqb b minus))
    ∙ last p n v m l s b (omega arith)
scan_is (c ∷ r) b p n v m l s e =
    ap₂ (λ (w : List ℕ) (t : Bool). same_bytes w (field (signed t (value_from v (b ∷ c ∷ r)))))
    (sym (append_snoc p b (c ∷ r))) (sym (or_assoc m (eqb b minus) (has_minus (c ∷ r))))
    ∙ scan_is r c (p ++ (b ∷ [])) (suc n) (10 * v + digit_in b) (m || eqb b minus)
    (length-append p (b ∷ []) ∙ ap (λ (k : ℕ). k + 1) l ∙ add-one n)
    (minus_append p (b ∷ []) ∙ ap₂ ◌||◌ s (or-false (eqb b minus)))
    (omega arith)
    ∙ ap (λ (t : Bool). t && scan (10 * v + digit_in b) (m || eqb b minus) c r) (step p n v m l s b)
    ∙ and_assoc (same_bytes p (columns n v m)) (fits v m b) (scan (10 * v + digit_in b) (m || eqb b minus) c r)

-- nine columns are well written where each fits
pub is_field_scan : (b : ℕ) (r : List ℕ) → length (b ∷ r) ≡ field_size → is_field (b ∷ r) ≡ scan 0 false b r
unfolding is_field number_in columns
is_field_scan b r e = scan_is r b [] 0 0 false refl refl (omega arith)
