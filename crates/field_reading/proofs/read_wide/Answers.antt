-- `field_reading::read_wide` meets its contract.
use mathlib.Core.Path.{sym, ap, ◌∙◌}
use mathlib.Core.Bool.{true, false}
use Prim.Native.Nat.{◌+◌}
use lib.Dec.{eqb}
use lib.ListN.{get_or}
use Rattle.std.proofs.lemmas.List.{take_rest}
use Rattle.fields.specs.Fields.{minus}
use Rattle.field_reading.specs.Scan.{digits_read, number_read}
use Rattle.field_reading.proofs.Columns.{blanks_low, read_long, read_minus, read_plain}
use Rattle.field_reading.proofs.read_wide.Goals as goal

pub returns-then-is_long : goal.returns-then-is_long
returns-then-is_long c =
    let w = c.args.columns.now in
    c.read_digits.ensures ∙ ap (digits_read (eqb (get_or w 1 0) minus)) (take_rest w 2)
    ∙ sym (read_long w c.requires.0 (sym c.is_long.ensures ∙ c.if-is_long.true))

pub returns-then-columns-start-eq-MINUS : goal.returns-then-columns-start-eq-MINUS
returns-then-columns-start-eq-MINUS c =
    let w = c.args.columns.now in
    let start = c.skip_blanks-start in
    c.read_number.ensures ∙ ap (number_read true) (take_rest w (start.result + 1))
    ∙ sym (read_minus w c.requires.0 start.result start.ensures
    (blanks_low w c.requires.0 start.result start.ensures c.requires.1) c.if-columns-start-eq-MINUS.true)

pub returns : goal.returns
returns c =
    let w = c.args.columns.now in
    let start = c.skip_blanks-start in
    c.read_number-2.ensures ∙ ap (number_read false) (take_rest w start.result)
    ∙ sym (read_plain w c.requires.0 start.result start.ensures
    (blanks_low w c.requires.0 start.result start.ensures c.requires.1) c.if-columns-start-eq-MINUS.false)
