-- The round trip of the strip sheet: docs/SPECIFICATION.md, The strip sheet. Definitions only; `RoundTrip`, at the end, is proved in
-- proofs/Holds.antt.
--
-- A written sheet reads back as the same unit, an accepted sheet of 1,200 bytes is written again byte for byte, and "a unit is unfit when no
-- accepted sheet could carry its numbers". A sheet of 1,128 bytes "reads as the unit that the longer one with remainders 0 reads as". It is stated
-- over the letters of the sides; `side_letters`, L and R, are those of the unit.
--
-- What it rests on. `filled_part` (writing/specs/Written.antt) and `sheet_read` (reading/specs/Reading.antt) are what the contracts of
-- `writing::fill`, `writing::write` and `reading::read` promise, for all inputs. Both are made of one form, the unit's, which gives the text, the
-- verdict and the unit (sheet/specs/Sheet.antt). Under it stand: each kind of line (sheet/specs/Lines.antt), a line, and how forms are put
-- together (forms/specs/Line.antt, Form.antt), a field (fields/specs/Fields.antt), shape and fitness (unit/specs/Shaped.antt, Fit.antt) and the
-- refusals' numbers (refusals/specs/Numbers.antt).
--
-- Every unit that a program holds is `Shaped (length side_letters)`: ten bands, and two channels of ten sections.
use Rattle.std.specs.Prelude.{◌≡◌, true, List, ◌⊎◌, ℕ, ◌≤◌, length}
use Rattle.refusals.specs.Numbers.{is_accepted, Accepted}
use Rattle.unit.specs.declared.Unit.{Unit}
use Rattle.unit.specs.Fit.{unit_fits}
use Rattle.unit.specs.Shaped.{Shaped}
use Rattle.sheet.specs.Sheet.{side_letters, sheet_size, short_size, sheet_verdict, carried_unit, sheet_of, short_sheet_of, PlainUnit}
use Rattle.writing.specs.Written.{filled_part}
use Rattle.reading.specs.Reading.{sheet_read}

-- the unit has a sheet: it is fit
abbrev pub HasSheet : Unit → Type 0
HasSheet u = unit_fits u ≡ true

module _ (letters : List ℕ) where
  -- the bytes are accepted as a sheet, and read as this unit, whatever unit the reader is given
  abbrev pub ReadsAs : List ℕ → Unit → Type 0
  ReadsAs bytes u = (given : Unit) → sheet_read letters bytes given ≡ record { verdict = Accepted; unit = u }

  -- some accepted sheet carries the unit's numbers
  pub record Carried (u : Unit) : Type 0 where
    pub sheet : List ℕ
    pub reads : ReadsAs sheet u

  pub record RoundTrip : Type 0 where
    -- each sheet has the length that is tested, with two sides "1,200 bytes"
    pub length_is : (u : Unit) → Shaped (length letters) u → length (sheet_of letters u) ≡ sheet_size letters
    pub stereo_size : sheet_size side_letters ≡ 1200
    -- a written sheet reads back as the same unit
    pub reads_back : (u : Unit) → Shaped (length letters) u → HasSheet u → ReadsAs (sheet_of letters u) u
    -- the part that the writer hands back, from a buffer with room for it, is such a sheet
    pub part_reads_back : (u : Unit) (room : ℕ) → Shaped (length letters) u → HasSheet u → sheet_size letters ≤ room → ReadsAs (filled_part letters u room) u
    -- an accepted sheet reads as a unit, which is fit; it has the length of a sheet, or of a short one
    pub accepted_reads : (bytes : List ℕ) → is_accepted (sheet_verdict letters bytes) ≡ true → ReadsAs bytes (carried_unit letters bytes)
    pub accepted_shaped : (bytes : List ℕ) (u : Unit) → ReadsAs bytes u → Shaped (length letters) u
    pub accepted_fit : (bytes : List ℕ) (u : Unit) → ReadsAs bytes u → HasSheet u
    pub accepted_length : (bytes : List ℕ) (u : Unit) → ReadsAs bytes u → (length bytes ≡ sheet_size letters) ⊎ (length bytes ≡ short_size letters)
    -- of the length of a sheet it is that unit's sheet: it is written again byte for byte
    pub written_again : (bytes : List ℕ) (u : Unit) → ReadsAs bytes u → length bytes ≡ sheet_size letters → sheet_of letters u ≡ bytes
    -- so is the part that the writer hands back
    pub part_again : (bytes : List ℕ) (u : Unit) (room : ℕ) → ReadsAs bytes u → length bytes ≡ sheet_size letters → sheet_size letters ≤ room → filled_part letters u room ≡ bytes
    -- of the length of a short one it is that unit's short sheet, and the unit's remainders are 0
    pub short_again : (bytes : List ℕ) (u : Unit) → ReadsAs bytes u → length bytes ≡ short_size letters → (short_sheet_of letters u ≡ bytes) × PlainUnit u
    -- a short sheet "reads as the unit that the longer one with remainders 0 reads as"
    pub short_reads : (u : Unit) → Shaped (length letters) u → HasSheet u → PlainUnit u → (given : Unit) → sheet_read letters (short_sheet_of letters u) given ≡ sheet_read letters (sheet_of letters u) given
    -- a short sheet has the length that is tested, with two sides "1,128 bytes"
    pub short_length_is : (u : Unit) → Shaped (length letters) u → length (short_sheet_of letters u) ≡ short_size letters
    pub short_stereo_size : short_size side_letters ≡ 1128
    -- two units that have sheets are equal exactly when the sheets are
    pub same_unit : (u w : Unit) → Shaped (length letters) u → Shaped (length letters) w → HasSheet u → HasSheet w → sheet_of letters u ≡ sheet_of letters w → u ≡ w
    pub same_sheet : (u w : Unit) → u ≡ w → sheet_of letters u ≡ sheet_of letters w
    -- a unit is fit exactly when some accepted sheet carries its numbers
    pub carried : (u : Unit) → Shaped (length letters) u → HasSheet u → Carried u
    pub carried_fit : (u : Unit) → Carried u → HasSheet u
