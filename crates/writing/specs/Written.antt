-- Writing the strip sheet, over the letters of the sides. Definitions only, by docs/SPECIFICATION.md, The strip sheet.
use Rattle.std.specs.Prelude.{Bool, cond, ◌&&◌, List, [], ◌++◌, ℕ, leb, length, drop}
use Rattle.unit.specs.declared.Unit.{Unit}
use Rattle.unit.specs.Fit.{unit_fits}
use Rattle.sheet.specs.Sheet.{sheet_size, sheet_of}

-- a sheet is written into a buffer of so many bytes: not "from a shorter buffer, or for an unfit unit"
unfoldable pub writes : List ℕ → Unit → ℕ → Bool
writes letters u room = leb (sheet_size letters) room && unit_fits u

-- how many bytes are filled
unfoldable pub filled_count : List ℕ → Unit → ℕ → ℕ
filled_count letters u room = cond (writes letters u room) (sheet_size letters) 0

-- the part that is handed back: the sheet, or "an empty part"
unfoldable pub filled_part : List ℕ → Unit → ℕ → List ℕ
filled_part letters u room = cond (writes letters u room) (sheet_of letters u) []

-- the buffer: the sheet, and "bytes behind the sheet keep their contents"; or else it "writes nothing"
unfoldable pub filled : List ℕ → Unit → List ℕ → List ℕ
filled letters u buffer = cond (writes letters u (length buffer)) (sheet_of letters u ++ drop (sheet_size letters) buffer) buffer
