-- What reading the lines of a sheet gives. Definitions only.
use Rattle.std.specs.Prelude.{Bool, List, ℕ, Result, Ok}
use Rattle.refusals.specs.Numbers.{first_of}
use Rattle.refusals.specs.declared.Refusal.{Refusal}
use Rattle.unit.specs.declared.Unit.{Unit}
use Rattle.sheet.specs.Sheet.{lines_verdict, lines_unit}

-- the unit that they carry, or their first refusal
abbrev pub lines_read : Bool → List ℕ → List ℕ → Result Unit Refusal
lines_read long letters bytes = first_of (lines_verdict long letters bytes) (Ok (lines_unit long letters bytes))
