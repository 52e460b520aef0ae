-- Reading the strip sheet, over the letters of the sides. Definitions only, by docs/SPECIFICATION.md, The strip sheet.
use Rattle.std.specs.Prelude.{cond, List, ℕ}
use Rattle.refusals.specs.Numbers.{is_accepted}
use Rattle.unit.specs.declared.Unit.{Unit}
use Rattle.unit.specs.Answered.{Answered, answered}
use Rattle.sheet.specs.Sheet.{sheet_verdict, carried_unit}

-- the answer: accepted, the unit that the sheet carries; refused, "the given unit comes back, unexamined"
unfoldable pub sheet_read : List ℕ → List ℕ → Unit → Answered
sheet_read letters bytes given =
    answered (sheet_verdict letters bytes) (cond (is_accepted (sheet_verdict letters bytes)) (carried_unit letters bytes) given)
