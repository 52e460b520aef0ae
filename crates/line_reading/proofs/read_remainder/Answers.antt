-- `line_reading::read_remainder` meets its contract: the fifth field, or 0 where the line has none.
use mathlib.Core.Path.{sym, ap, ◌∙◌}
use mathlib.Core.Bool.{Bool}
use Rattle.std.specs.Prelude.{Ok}
use Rattle.refusals.specs.Numbers.{Accepted}
use Rattle.refusals.proofs.Laws.{first_assoc}
use Rattle.unit.specs.Fit.{is_remainder}
use Rattle.fields.specs.Fields.{number_in, field_at}
use Rattle.forms.specs.Line.{field_verdict}
use Rattle.line_reading.specs.Gives.{remainder_read}
use Rattle.line_reading.proofs.read_remainder.Goals as goal

pub returns : goal.returns
unfolding is_remainder
returns c =
    let columns = field_at c.args.bytes.now 0 in
    c.read_number.ensures ∙ sym (first_assoc (field_verdict is_remainder columns) Accepted (Ok (number_in columns)))
    ∙ ap (λ (fifth : Bool). remainder_read fifth c.args.bytes.now) (sym c.if-not-fifth.false)
