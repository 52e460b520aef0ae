-- What is filled: the front with the sheet, or nothing; and the front that is handed back.
use mathlib.Core.Path.{◌≡◌, refl, sym, ap, ap₂, ◌∙◌}
use mathlib.Core.Bool.{Bool, true, false, cond, ◌&&◌}
use mathlib.Core.List.{List, [], ◌++◌}
use Prim.Native.Nat.{ℕ, ◌≤◌, ◌<◌}
use native.Mathlib.Omega.{arith}
use lib.Dec.{leb}
use lib.ListN.{length, take, drop, length-append, length-drop}
use lib.Seq.{sets, take_at}
use borrow.Author.Tests.{leb-true, le-leb, lt-leb}
use Rattle.integers.proofs.Order.{both_true}
use Rattle.lists.proofs.Stores.{stored_front}
use Rattle.refusals.proofs.Laws.{passed, failed}
use Rattle.unit.specs.declared.Unit.{Unit}
use Rattle.unit.specs.Fit.{unit_fits}
use Rattle.unit.specs.Shaped.{Shaped}
use Rattle.sheet.specs.Sheet.{sheet_size, sheet_of}
use Rattle.sheet.proofs.Sizes.{sheet_length}
use Rattle.writing.specs.Written.{writes, filled_count, filled_part, filled}

-- ---- any bytes at the front of a buffer

module _ (p b : List ℕ) (n : ℕ) where
  -- they are the front of the buffer where they leave it as long as it was; or nothing is
  front_taken : (t : Bool) (count : ℕ) (after : List ℕ) → (t ≡ true → n ≤ length b) → count ≡ cond t n 0 → after ≡ cond t (p ++ drop n b) b → length after ≡ length b → (count ≤ length after) × (take count after ≡ cond t p [])
  front_taken true count after h e f k = (
    omega (arith, h refl),
    ap₂ take e f ∙ take_at p (drop n b) n (omega (arith, h refl, ap length f, length-append p (drop n b), length-drop n b)),
  )
  front_taken false count after h e f k = (omega arith, ap₂ take e f)

-- ---- a unit's sheet

module _ (letters : List ℕ) (u : Unit) (b : List ℕ) where
  -- nothing is filled
  abbrev Nothing : Type 0
  Nothing = (0 ≡ filled_count letters u (length b)) × (b ≡ filled letters u b)

  -- so it is where no sheet is written
  none_filled : writes letters u (length b) ≡ false → Nothing
  unfolding filled_count filled
  none_filled e = (failed (writes letters u (length b)) _ 0 e, failed (writes letters u (length b)) _ b e)

  -- a sheet is written into a buffer that is long enough
  room_written : writes letters u (length b) ≡ true → sheet_size letters ≤ length b
  unfolding writes
  room_written e = leb-true (sheet_size letters) (length b) (both_true (leb (sheet_size letters) (length b)) (unit_fits u) e).0

  -- nothing is filled of a shorter buffer
  pub short_filled : length b < sheet_size letters → Nothing
  unfolding writes
  short_filled h = none_filled (ap (λ (t : Bool). t && unit_fits u) (lt-leb (sheet_size letters) (length b) h))

  module _ {t : Bool} (long : sheet_size letters ≤ length b) (test : t ≡ unit_fits u) where
    -- where the buffer is long enough, a test of the unit's fitness decides
    fit_written : writes letters u (length b) ≡ t
    unfolding writes
    fit_written = ap (λ (r : Bool). r && unit_fits u) (le-leb (sheet_size letters) (length b) long) ∙ sym test

    -- nothing is filled for an unfit unit
    pub unfit_filled : t ≡ false → Nothing
    unfit_filled e = none_filled (fit_written ∙ e)

    -- the front is filled with the sheet of a fit unit
    pub sheet_filled : {after : List ℕ} → t ≡ true → Shaped (length letters) u → after ≡ sets b 0 (sheet_of letters u) → (sheet_size letters ≡ filled_count letters u (length b)) × (after ≡ filled letters u b)
    unfolding filled_count filled
    sheet_filled w s a = (
      passed (writes letters u (length b)) (sheet_size letters) 0 (fit_written ∙ w),
      a
          ∙ stored_front (sheet_of letters u) b (sheet_size letters) (sheet_length letters u s) long
          ∙ passed (writes letters u (length b)) (sheet_of letters u ++ drop (sheet_size letters) b) b (fit_written ∙ w),
    )

  -- the part that is handed back is within the buffer, and holds the sheet or nothing
  pub part_filled : {count : ℕ} {after : List ℕ} → count ≡ filled_count letters u (length b) → after ≡ filled letters u b → length after ≡ length b → (count ≤ length after) × (take count after ≡ filled_part letters u (length b))
  unfolding filled_count filled filled_part
  part_filled {count} {after} e f k = front_taken (sheet_of letters u) b (sheet_size letters) (writes letters u (length b)) count after room_written e f k
