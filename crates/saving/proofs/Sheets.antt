-- The sheet that is written.
use mathlib.Core.Path.{◌≡◌, ◌∙◌}
use mathlib.Core.List.{List}
use Prim.Native.Nat.{ℕ, ◌≤◌}
use Rattle.unit.specs.declared.Unit.{Unit}
use Rattle.unit.specs.Fit.{Fit}
use Rattle.unit.proofs.Fitness.{test_of_fit}
use Rattle.sheet.specs.Sheet.{side_letters, sheet_size}
use Rattle.writing.specs.Written.{filled_part}
use Rattle.roundtrip.proofs.Holds.{part_is_sheet}
use Rattle.saving.specs.Saved.{IsSheet}

-- a fit unit's part of a buffer with room for it is the unit's sheet
pub part_sheet : (u : Unit) (room : ℕ) (part : List ℕ) → Fit u → sheet_size side_letters ≤ room → part ≡ filled_part side_letters u room → IsSheet u part
part_sheet u room part fit enough e = record { fit = fit; bytes_are = e ∙ part_is_sheet side_letters u room (test_of_fit u fit) enough }
