-- `lending::sheet_write` meets its contract: nothing is written into a shorter buffer or for an unfit unit, else the sheet.
use mathlib.Core.Path.{sym, ap, ◌∙◌, subst}
use native.Mathlib.Omega.{arith}
use lib.Seq.{sets}
use Rattle.unit.specs.declared.Unit.{Unit}
use Rattle.unit.specs.Fit.{Fit}
use Rattle.unit.proofs.Fitness.{fit_of_test}
use Rattle.sheet.specs.Sheet.{side_letters, sheet_of}
use Rattle.writing.proofs.Filled.{short_filled, unfit_filled, sheet_filled}
use Rattle.numbers.specs.Layout.{unit_of}
use Rattle.numbers.proofs.Units.{unit_shaped}
use Rattle.lending.proofs.Sheets.{sheet_written}
use Rattle.lending.proofs.sheet_write.Goals as goal

pub returns-then-buffer-lt-SHEET_SIZE : goal.returns-then-buffer-lt-SHEET_SIZE
returns-then-buffer-lt-SHEET_SIZE c =
    let s = c.before.before in
    sheet_written (short_filled side_letters (unit_of s.args.numbers.now) s.args.buffer.now (omega arith))

pub returns-then-not-is_fit : goal.returns-then-not-is_fit
returns-then-not-is_fit c =
    let s = c.before.before.before.before in
    sheet_written (unfit_filled side_letters (unit_of s.args.numbers.now) s.args.buffer.now (omega arith) c.is_fit.ensures (c.if-not-is_fit.true))

pub put_sheet-requires : goal.put_sheet-requires
put_sheet-requires c =
    let l = c.args.numbers.now in
    (omega arith, subst Fit (sym c.unit_of.ensures) (fit_of_test (unit_of l) (sym c.is_fit.ensures ∙ c.if-not-is_fit.false)))

pub returns : goal.returns
returns c =
    let s = c.before.before.before.before.before.before.before.before.before in
    let l = s.args.numbers.now in
    sheet_written
    (sheet_filled side_letters (unit_of l) s.args.buffer.now (omega arith) c.is_fit.ensures (c.if-not-is_fit.false) (unit_shaped l)
    (c.put_sheet.ensures ∙ ap (λ (u : Unit). sets s.args.buffer.now 0 (sheet_of side_letters u)) c.unit_of.ensures))
