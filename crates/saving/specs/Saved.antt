-- What goes to strip.new. Definitions only.
use Rattle.std.specs.Prelude.{◌≡◌, List, ℕ}
use Rattle.unit.specs.declared.Unit.{Unit}
use Rattle.unit.specs.Fit.{Fit}
use Rattle.sheet.specs.Sheet.{side_letters, sheet_of}

-- the bytes are the sheet of this unit, which is fit
pub record IsSheet (u : Unit) (bytes : List ℕ) : Type 0 where
  pub fit : Fit u
  pub bytes_are : bytes ≡ sheet_of side_letters u
