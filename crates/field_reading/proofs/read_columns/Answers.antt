-- `field_reading::read_columns` meets its contract.
use mathlib.Core.Path.{sym, ap, ◌∙◌}
use mathlib.Core.Bool.{false}
use Rattle.std.proofs.lemmas.List.{take_rest}
use Rattle.fields.specs.Fields.{last_column}
use Rattle.field_reading.specs.Scan.{digits_read}
use Rattle.field_reading.proofs.Columns.{read_last}
use Rattle.field_reading.proofs.read_columns.Goals as goal

pub returns-then-all_blank : goal.returns-then-all_blank
returns-then-all_blank c =
    let w = c.args.columns.now in
    c.read_digits.ensures ∙ ap (digits_read false) (take_rest w last_column)
    ∙ sym (read_last w c.requires (sym c.all_blank.ensures ∙ c.if-all_blank.true))

pub read_wide-requires : goal.read_wide-requires
read_wide-requires c = (c.requires, sym c.all_blank.ensures ∙ c.if-all_blank.false)
