-- `line_reading::read_head` meets its contract: a letter, two inputs and a flag, a line end.
use mathlib.Core.Path.{refl}
use Rattle.line_reading.proofs.Results.{handed_on}
use Rattle.forms.specs.Line.{alone}
use Rattle.sheet.specs.Lines.{head_ranges}
use Rattle.line_reading.proofs.Line.{letter_off, fields_off, end_off, line_on}
use Rattle.line_reading.proofs.read_head.Goals as goal

pub returns-in_err-check_letter : goal.returns-in_err-check_letter
returns-in_err-check_letter c =
    handed_on c.from_residual.result c.from_residual.ensures.1
    (letter_off c.args.letter head_ranges alone c.args.bytes.now (λ l. l) c.in_err-check_letter.ensures)

pub returns-in_err-numbers : goal.returns-in_err-numbers
returns-in_err-numbers c =
    handed_on c.from_residual-in_err-numbers.result c.from_residual-in_err-numbers.ensures.1
    (fields_off c.args.letter head_ranges alone c.args.bytes.now (λ l. l) c.in_ok-check_letter.ensures c.in_err-numbers.ensures)

pub returns-in_err-check_end : goal.returns-in_err-check_end
returns-in_err-check_end c =
    handed_on c.from_residual-in_err-check_end.result c.from_residual-in_err-check_end.ensures.1
    (end_off c.args.letter head_ranges alone c.args.bytes.now (λ l. l) c.in_ok-check_letter.ensures c.in_ok-numbers.ensures refl c.in_err-check_end.ensures)

pub returns : goal.returns
returns c =
    line_on c.args.letter head_ranges alone c.args.bytes.now (λ l. l) c.in_ok-check_letter.ensures c.in_ok-numbers.ensures refl c.in_ok-check_end.ensures refl
