-- `line_reading::read_band` meets its contract: a letter, three fields, 8 to 10 for their numbers, a line end.
use mathlib.Core.Path.{ap, ◌∙◌}
use Rattle.line_reading.proofs.Results.{handed_on}
use Rattle.bands.specs.Bands.{band_verdict}
use Rattle.sheet.specs.Lines.{band_letter, band_ranges, band_joint, band_of_row}
use Rattle.line_reading.proofs.Line.{letter_off, fields_off, joint_off, end_off, line_on}
use Rattle.line_reading.proofs.read_band.Goals as goal

pub returns-in_err-check_letter : goal.returns-in_err-check_letter
returns-in_err-check_letter c =
    handed_on c.from_residual.result c.from_residual.ensures.1
    (letter_off band_letter band_ranges band_joint c.args.bytes.now band_of_row c.in_err-check_letter.ensures)

pub returns-in_err-numbers : goal.returns-in_err-numbers
returns-in_err-numbers c =
    handed_on c.from_residual-in_err-numbers.result c.from_residual-in_err-numbers.ensures.1
    (fields_off band_letter band_ranges band_joint c.args.bytes.now band_of_row c.in_ok-check_letter.ensures c.in_err-numbers.ensures)

pub returns-in_err-check_band : goal.returns-in_err-check_band
returns-in_err-check_band c =
    handed_on c.from_residual-in_err-check_band.result c.from_residual-in_err-check_band.ensures.1
    (joint_off band_letter band_ranges band_joint c.args.bytes.now band_of_row c.in_ok-check_letter.ensures c.in_ok-numbers.ensures (c.in_err-check_band.ensures ∙ ap band_verdict c.band_at-band.ensures))

pub returns-in_err-check_end : goal.returns-in_err-check_end
returns-in_err-check_end c =
    handed_on c.from_residual-in_err-check_end.result c.from_residual-in_err-check_end.ensures.1
    (end_off band_letter band_ranges band_joint c.args.bytes.now band_of_row c.in_ok-check_letter.ensures c.in_ok-numbers.ensures (c.in_ok-check_band.ensures ∙ ap band_verdict c.band_at-band.ensures) c.in_err-check_end.ensures)

pub returns : goal.returns
returns c =
    line_on band_letter band_ranges band_joint c.args.bytes.now band_of_row c.in_ok-check_letter.ensures c.in_ok-numbers.ensures (c.in_ok-check_band.ensures ∙ ap band_verdict c.band_at-band.ensures)
    c.in_ok-check_end.ensures c.band_at-band.ensures
