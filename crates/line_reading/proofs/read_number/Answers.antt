-- `line_reading::read_number` meets its contract: the field's number, tested as it was read.
use mathlib.Core.Path.{sym, ap, ◌∙◌}
use mathlib.Core.Bool.{true, false}
use native.Mathlib.Omega.{arith}
use mir.Syntax.{w32}
use Rattle.std.specs.Prelude.{Ok}
use Rattle.integers.proofs.Machine.{reads_back}
use Rattle.fields.specs.Fields.{field_at}
use Rattle.line_reading.specs.Gives.{is_admitted}
use Rattle.line_reading.proofs.Fields.{field_badly, field_tested}
use Rattle.line_reading.proofs.read_number.Goals as goal

pub returns-in-None : goal.returns-in-None
returns-in-None c = field_badly (is_admitted c.args.range) (field_at c.args.bytes.now c.args.at) (sym c.in-None.ensures)

pub returns-then-not-is_admitted : goal.returns-then-not-is_admitted
returns-then-not-is_admitted c =
    let whole = reads_back w32 c.in-Some.number (omega arith) in
    field_tested (is_admitted c.args.range) (field_at c.args.bytes.now c.args.at) c.in-Some.number (sym c.in-Some.ensures) false
    (ap (is_admitted c.args.range) (sym whole) ∙ sym c.is_admitted.ensures ∙ c.if-not-is_admitted.true)

pub returns-else-not-is_admitted : goal.returns-else-not-is_admitted
returns-else-not-is_admitted c =
    let whole = reads_back w32 c.in-Some.number (omega arith) in
    ap Ok whole
    ∙ field_tested (is_admitted c.args.range) (field_at c.args.bytes.now c.args.at) c.in-Some.number (sym c.in-Some.ensures) true
    (ap (is_admitted c.args.range) (sym whole) ∙ sym c.is_admitted.ensures ∙ c.if-not-is_admitted.false)
