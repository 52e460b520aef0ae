-- `writing::fill` meets its contract: nothing is written into a shorter buffer or for an unfit unit, else the sheet.
use mathlib.Core.Path.{sym, ◌∙◌}
use native.Mathlib.Omega.{arith}
use Rattle.unit.proofs.Fitness.{fit_of_test}
use Rattle.sheet.specs.Sheet.{side_letters}
use Rattle.writing.proofs.Typed.{unit_typed}
use Rattle.writing.proofs.Filled.{short_filled, unfit_filled, sheet_filled}
use Rattle.writing.proofs.fill.Goals as goal

pub returns-then-out-lt-SHEET_SIZE : goal.returns-then-out-lt-SHEET_SIZE
returns-then-out-lt-SHEET_SIZE c = short_filled side_letters c.args.unit c.args.out.now (omega arith)

pub returns-then-not-is_fit : goal.returns-then-not-is_fit
returns-then-not-is_fit c =
    unfit_filled side_letters c.args.unit c.args.out.now (omega arith) c.is_fit.ensures (c.if-not-is_fit.true)

pub put_sheet-requires : goal.put_sheet-requires
put_sheet-requires c = (
  omega arith,
  fit_of_test c.args.unit (sym c.is_fit.ensures ∙ c.if-not-is_fit.false),
)

pub returns : goal.returns
returns c =
    sheet_filled side_letters c.args.unit c.args.out.now (omega arith) c.is_fit.ensures (c.if-not-is_fit.false) (unit_typed c.args.unit _ c.well_formed.0) c.put_sheet.ensures
