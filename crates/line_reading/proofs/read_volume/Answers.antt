-- `line_reading::read_volume` meets its contract: a letter, two fields of the range of a volume, a line end.
use mathlib.Core.Path.{refl}
use native.Mathlib.Omega.{arith}
use lib.IntN.{pos}
use lib.ListN.{get_or}
use Rattle.line_reading.proofs.Results.{handed_on}
use Rattle.forms.specs.Line.{alone}
use Rattle.unit.specs.Fit.{is_volume}
use Rattle.sheet.specs.Lines.{volume_letter, volume_ranges, volume_of_row}
use Rattle.line_reading.proofs.Fields.{widened}
use Rattle.line_reading.proofs.Line.{letter_off, fields_off, end_off, line_on}
use Rattle.line_reading.proofs.read_volume.Goals as goal

pub returns-in_err-check_letter : goal.returns-in_err-check_letter
returns-in_err-check_letter c =
    handed_on c.from_residual.result c.from_residual.ensures.1
    (letter_off volume_letter volume_ranges alone c.args.bytes.now volume_of_row c.in_err-check_letter.ensures)

pub returns-in_err-numbers : goal.returns-in_err-numbers
unfolding is_volume
returns-in_err-numbers c =
    handed_on c.from_residual-in_err-numbers.result c.from_residual-in_err-numbers.ensures.1
    (fields_off volume_letter volume_ranges alone c.args.bytes.now volume_of_row c.in_ok-check_letter.ensures c.in_err-numbers.ensures)

pub returns-in_err-check_end : goal.returns-in_err-check_end
unfolding is_volume
returns-in_err-check_end c =
    handed_on c.from_residual-in_err-check_end.result c.from_residual-in_err-check_end.ensures.1
    (end_off volume_letter volume_ranges alone c.args.bytes.now volume_of_row c.in_ok-check_letter.ensures c.in_ok-numbers.ensures refl c.in_err-check_end.ensures)

pub returns : goal.returns
unfolding is_volume
returns c =
    let present = widened (get_or c.in_ok-numbers.numbers 0 (pos 0)) (omega arith) in
    let target = widened (get_or c.in_ok-numbers.numbers 1 (pos 0)) (omega arith) in
    line_on volume_letter volume_ranges alone c.args.bytes.now volume_of_row c.in_ok-check_letter.ensures c.in_ok-numbers.ensures refl c.in_ok-check_end.ensures (rw (present, target))
