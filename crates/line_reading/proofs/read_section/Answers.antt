-- `line_reading::read_section` meets its contract: a letter, four words and the remainder or 0, a line end.
use mathlib.Core.Path.{refl}
use native.Mathlib.Omega.{arith}
use Prim.Native.Nat.{ℕ}
use lib.IntN.{pos}
use lib.ListN.{get_or}
use Rattle.line_reading.proofs.Results.{handed_on}
use Rattle.forms.specs.Line.{alone}
use Rattle.sheet.specs.Lines.{section_letter, fifth_range, section_ranges, section_of_row}
use Rattle.line_reading.proofs.Fields.{widened, front_off}
use Rattle.line_reading.proofs.Section.{four_words, remainder_off, remainder_on}
use Rattle.line_reading.proofs.Line.{letter_off, fields_off, end_off, line_on}
use Rattle.line_reading.proofs.read_section.Goals as goal

pub returns-in_err-check_letter : goal.returns-in_err-check_letter
returns-in_err-check_letter c =
    handed_on c.from_residual.result c.from_residual.ensures.1
    (letter_off section_letter (section_ranges c.args.fifth) alone c.args.bytes.now section_of_row (simp (c.section_fields-count.ensures) at c.in_err-check_letter.ensures))

pub returns-in_err-numbers : goal.returns-in_err-numbers
returns-in_err-numbers c =
    handed_on c.from_residual-in_err-numbers.result c.from_residual-in_err-numbers.ensures.1
    (fields_off section_letter (section_ranges c.args.fifth) alone c.args.bytes.now section_of_row
    (simp (c.section_fields-count.ensures) at c.in_ok-check_letter.ensures)
    (front_off four_words (fifth_range c.args.fifth) _ c.in_err-numbers.ensures))

pub returns-in_err-remainder : goal.returns-in_err-remainder
returns-in_err-remainder c =
    handed_on c.from_residual-in_err-remainder.result c.from_residual-in_err-remainder.ensures.1
    (fields_off section_letter (section_ranges c.args.fifth) alone c.args.bytes.now section_of_row
    (simp (c.section_fields-count.ensures) at c.in_ok-check_letter.ensures)
    (remainder_off c.args.fifth c.args.bytes.now c.in_ok-numbers.ensures c.in_err-remainder.ensures))

pub returns-in_err-check_end : goal.returns-in_err-check_end
returns-in_err-check_end c =
    let both = remainder_on c.args.fifth c.args.bytes.now c.in_ok-numbers.ensures c.in_ok-remainder.ensures in
    handed_on c.from_residual-in_err-check_end.result c.from_residual-in_err-check_end.ensures.1
    (end_off section_letter (section_ranges c.args.fifth) alone c.args.bytes.now section_of_row
    (simp (c.section_fields-count.ensures) at c.in_ok-check_letter.ensures) both.1 refl
    (simp (c.section_fields-count.ensures) at c.in_err-check_end.ensures))

pub returns : goal.returns
returns c =
    let both = remainder_on c.args.fifth c.args.bytes.now c.in_ok-numbers.ensures c.in_ok-remainder.ensures in
    let number = λ (i : ℕ). get_or c.in_ok-numbers.numbers i (pos 0) in
    rw (widened (number 0) (omega arith), widened (number 1) (omega arith), widened (number 2) (omega arith), widened (number 3) (omega arith), widened c.in_ok-remainder.remainder (omega arith))
    (line_on section_letter (section_ranges c.args.fifth) alone c.args.bytes.now section_of_row
    (simp (c.section_fields-count.ensures) at c.in_ok-check_letter.ensures) both.1 refl
    (simp (c.section_fields-count.ensures) at c.in_ok-check_end.ensures) both.2)
