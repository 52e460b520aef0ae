-- `saving::save` is safe: what is stored, or else shown, is the unit's sheet.
use lib.Dec.{lit≤}
use Rattle.sheet.specs.Sheet.{side_letters, sheet_size}
use Rattle.saving.specs.Saved.{IsSheet}
use Rattle.saving.proofs.Sheets.{part_sheet}
use Rattle.saving.proofs.save.Goals.{After-write-sheet}
use Rattle.saving.proofs.save.Goals as goal

-- what the writer hands back is the unit's sheet
part : (c : After-write-sheet) → IsSheet c.args.unit c.write-sheet.result.now
part c = part_sheet c.args.unit (sheet_size side_letters) _ c.requires (lit≤ tt) c.write-sheet.ensures.0

pub store-requires : goal.store-requires
store-requires c = part (goal.at.store-requires c).After-write-sheet

pub show-requires : goal.show-requires
show-requires c = part (goal.at.show-requires c).After-write-sheet
