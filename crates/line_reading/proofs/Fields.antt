-- A field, and fields of one range read by a loop.
use mathlib.Core.Path.{◌≡◌, refl, sym, ap, ap₂, ◌∙◌}
use mathlib.Core.Bool.{Bool}
use mathlib.Core.List.{List, [], ◌∷◌, ◌++◌}
use Prim.Native.Nat.{ℕ, zero, suc, ◌+◌, ◌*◌, ◌-◌, ◌<◌}
use native.Mathlib.Nat.{zero-add, suc-add}
use native.Mathlib.Numerals.{add-one}
use native.Mathlib.Omega.{arith}
use native.Mathlib.Nat.{lt_of_lt_of_le}
use lib.Dec.{lit≤}
use lib.IntN.{ℤ}
use lib.Signed.{mag}
use mir.Syntax.{w32, w64}
use mir.Val.{to_z, of_z}
use Rattle.integers.proofs.Machine.{reads_back}
use lib.ListN.{length, take, drop, set, replicate, length-set, length-append, length-replicate}
use lib.Seq.{drop-drop, take_all, take-suc-set}
use Rattle.std.specs.Prelude.{Some, None, Ok, Err}
use Rattle.refusals.specs.Numbers.{unless, first_of, Verdict, Accepted}
use Rattle.refusals.specs.declared.Refusal.{Refusal}
use Rattle.refusals.specs.declared.Refusal.TheVariants.{FieldForm, Unfit}
use Rattle.refusals.proofs.Laws.{first_assoc}
use Rattle.fields.specs.Fields.{field_size, field_at, number_in, field_read}
use Rattle.fields.proofs.Laws.{none_read, some_read}
use Rattle.forms.specs.Line.{field_verdict, fields_verdict, field_numbers}
use Rattle.line_reading.specs.Gives.{number_read, numbers_read}
use Rattle.line_reading.proofs.Results.{read_off, read_on}

-- a number of 32 bits in 64 bits
pub widened : (n : ℤ) → mag n < 2147483648 → to_z w64 (of_z w64 (to_z w32 (of_z w32 n))) ≡ n
widened n h = ap (λ (z : ℤ). to_z w64 (of_z w64 z)) (reads_back w32 n h) ∙ reads_back w64 n (lt_of_lt_of_le h (lit≤ tt))

-- ---- a field

module _ (range : ℤ → Bool) (columns : List ℕ) where
  -- badly written
  pub field_badly : field_read columns ≡ None → Err FieldForm ≡ number_read range columns
  field_badly e =
      ap (λ (t : Bool). first_of (unless t FieldForm (unless (range (number_in columns)) Unfit Accepted)) (Ok (number_in columns)))
      (sym (none_read columns e))

  -- well written: by the range
  pub field_tested : (n : ℤ) → field_read columns ≡ Some n → (t : Bool) → range n ≡ t → first_of (unless t Unfit Accepted) (Ok n) ≡ number_read range columns
  field_tested n e t h =
      let well = some_read columns n e in
      ap (λ (s : Bool). first_of (unless s Unfit Accepted) (Ok n)) (sym h)
      ∙ ap (λ (m : ℤ). first_of (unless (range m) Unfit Accepted) (Ok m)) (sym well.1)
      ∙ ap (λ (s : Bool). first_of (unless s FieldForm (unless (range (number_in columns)) Unfit Accepted)) (Ok (number_in columns))) (sym well.0)

-- ---- fields one behind the other

-- behind one more field
past : (n : ℕ) (bytes : List ℕ) → drop (field_size * n) (drop field_size bytes) ≡ drop (field_size * suc n) bytes
past n bytes =
    let further : field_size + field_size * n ≡ field_size * suc n = omega arith in
    drop-drop (field_size * n) field_size bytes ∙ ap (λ (k : ℕ). drop k bytes) further

-- some fields and then others
pub fields_append : (r s : List (ℤ → Bool)) (bytes : List ℕ) → fields_verdict (r ++ s) bytes ≡ first_of (fields_verdict r bytes) (fields_verdict s (drop (field_size * length r) bytes))
fields_append [] s bytes = refl
fields_append (range ∷ r) s bytes =
    ap (first_of (field_verdict range (take field_size bytes)))
    (fields_append r s (drop field_size bytes)
    ∙ ap (λ (l : List ℕ). first_of (fields_verdict r (drop field_size bytes)) (fields_verdict s l)) (past (length r) bytes))
    ∙ sym (first_assoc (field_verdict range (take field_size bytes)) (fields_verdict r (drop field_size bytes)) (fields_verdict s (drop (field_size * length (range ∷ r)) bytes)))

-- and their numbers
pub numbers_append : (n m : ℕ) (bytes : List ℕ) → field_numbers (n + m) bytes ≡ field_numbers n bytes ++ field_numbers m (drop (field_size * n) bytes)
numbers_append zero m bytes = ap (λ (k : ℕ). field_numbers k bytes) (zero-add m)
numbers_append (suc n) m bytes =
    ap (λ (k : ℕ). field_numbers k bytes) (suc-add n m)
    ∙ ap (λ (l : List ℤ). number_in (take field_size bytes) ∷ l)
    (numbers_append n m (drop field_size bytes) ∙ ap (λ (l : List ℕ). field_numbers n (drop field_size bytes) ++ field_numbers m l) (past n bytes))

-- what reading both gives
module _ (r s : List (ℤ → Bool)) (bytes : List ℕ) where
  abbrev others : List ℕ
  others = drop (field_size * length r) bytes

  abbrev all : List ℤ
  all = field_numbers (length (r ++ s)) bytes

  -- the first are refused
  pub front_off : {e : Refusal} → Err e ≡ numbers_read r bytes → Err e ≡ numbers_read (r ++ s) bytes
  front_off {e} h =
      ap (λ (v : Verdict). first_of v (Ok all))
      (sym (fields_append r s bytes ∙ ap (λ (v : Verdict). first_of v (fields_verdict s others)) (read_off (fields_verdict r bytes) (field_numbers (length r) bytes) (sym h))))

  module _ {xs : List ℤ} (front : Ok xs ≡ numbers_read r bytes) where
    abbrev on : (fields_verdict r bytes ≡ Accepted) × (field_numbers (length r) bytes ≡ xs)
    on = read_on (fields_verdict r bytes) (field_numbers (length r) bytes) (sym front)

    both_are : (v : Verdict) → fields_verdict s others ≡ v → fields_verdict (r ++ s) bytes ≡ v
    both_are v h = fields_append r s bytes ∙ ap₂ first_of on.0 h

    -- the others are
    pub back_off : {e : Refusal} → fields_verdict s others ≡ Err e → Err e ≡ numbers_read (r ++ s) bytes
    back_off {e} h = ap (λ (v : Verdict). first_of v (Ok all)) (sym (both_are (Err e) h))

    -- all are accepted
    pub both_on : fields_verdict s others ≡ Accepted → Ok (xs ++ field_numbers (length s) others) ≡ numbers_read (r ++ s) bytes
    both_on h =
        ap Ok
        (ap (λ (l : List ℤ). l ++ field_numbers (length s) others) (sym on.1)
        ∙ sym (ap (λ (k : ℕ). field_numbers k bytes) (length-append r s) ∙ numbers_append (length r) (length s) bytes))
        ∙ ap (λ (v : Verdict). first_of v (Ok all)) (sym (both_are Accepted h))

-- one more at the end
one_more : (n : ℕ) (bytes : List ℕ) → field_numbers (suc n) bytes ≡ field_numbers n bytes ++ (number_in (take field_size (drop (field_size * n) bytes)) ∷ [])
one_more n bytes = ap (λ (k : ℕ). field_numbers k bytes) (sym (add-one n)) ∙ numbers_append n 1 bytes

module _ (range : ℤ → Bool) (count : ℕ) (bytes : List ℕ) where
  -- the verdict of the fields from the ith on
  abbrev left : ℕ → Verdict
  left i = fields_verdict (replicate (count - i) range) (drop (field_size * i) bytes)

  -- after i fields: their numbers are stored, and the verdict is that of the fields left
  pub record ReadUpTo (i : ℕ) (numbers : List ℤ) : Type 0 where
    pub size : length numbers ≡ count
    pub numbers_are : take i numbers ≡ field_numbers i bytes
    pub verdict_is : fields_verdict (replicate count range) bytes ≡ left i

  -- before the first
  pub none_read_yet : (n : ℤ) → ReadUpTo 0 (replicate count n)
  none_read_yet n =
      let all : count ≡ count - 0 = omega arith in
      record { size = length-replicate count n; numbers_are = refl; verdict_is = ap (λ (n : ℕ). fields_verdict (replicate n range) bytes) all }

  module _ {i : ℕ} {numbers : List ℤ} (r : ReadUpTo i numbers) where
    -- after the last
    pub all_read : i ≡ count → Ok numbers ≡ numbers_read (replicate count range) bytes
    all_read h =
        let none : count - i ≡ 0 = omega arith in
        ap Ok
        (sym (take_all i numbers (omega (arith, r.size))) ∙ r.numbers_are
        ∙ ap (λ (n : ℕ). field_numbers n bytes) (h ∙ sym (length-replicate count range)))
        ∙ ap (λ (v : Verdict). first_of v (Ok (field_numbers (length (replicate count range)) bytes)))
        (sym (r.verdict_is ∙ ap (λ (n : ℕ). fields_verdict (replicate n range) (drop (field_size * i) bytes)) none))

    module _ (below : i < count) where
      abbrev columns : List ℕ
      columns = field_at bytes (field_size * i)

      -- the ith and then the others
      turn : fields_verdict (replicate count range) bytes ≡ first_of (field_verdict range columns) (left (i + 1))
      turn =
          let one : count - i ≡ suc (count - (i + 1)) = omega arith in
          let further : field_size * i + field_size ≡ field_size * (i + 1) = omega arith in
          r.verdict_is
          ∙ ap (λ (n : ℕ). fields_verdict (replicate n range) (drop (field_size * i) bytes)) one
          ∙ ap (λ (l : List ℕ). first_of (field_verdict range columns) (fields_verdict (replicate (count - (i + 1)) range) l))
          (drop-drop field_size (field_size * i) bytes ∙ ap (λ (n : ℕ). drop n bytes) further)

      -- the ith is refused
      pub field_off : {e : Refusal} → Err e ≡ number_read range columns → Err e ≡ numbers_read (replicate count range) bytes
      field_off {e} h =
          ap (λ (v : Verdict). first_of v (Ok (field_numbers (length (replicate count range)) bytes)))
          (sym (turn ∙ ap (λ (v : Verdict). first_of v (left (i + 1))) (read_off (field_verdict range columns) (number_in columns) (sym h))))

      -- it is accepted, and its number stored
      pub field_on : {n : ℤ} → Ok n ≡ number_read range columns → ReadUpTo (i + 1) (set numbers i n)
      field_on {n} h =
          let on = read_on (field_verdict range columns) (number_in columns) (sym h) in
          record {
            size = length-set numbers i n ∙ r.size;
            numbers_are =
                ap (λ (k : ℕ). take k (set numbers i n)) (add-one i) ∙ take-suc-set numbers i n (omega (arith, r.size))
                ∙ ap₂ (λ (l : List ℤ) (m : ℤ). l ++ (m ∷ [])) r.numbers_are (sym on.1)
                ∙ sym (one_more i bytes) ∙ ap (λ (k : ℕ). field_numbers k bytes) (sym (add-one i));
            verdict_is = turn ∙ ap (λ (v : Verdict). first_of v (left (i + 1))) on.0;
          }
