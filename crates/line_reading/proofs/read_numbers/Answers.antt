-- `line_reading::read_numbers` meets its contract.
use native.Mathlib.Omega.{arith}
use mir.Syntax.{w32}
use Rattle.integers.proofs.Machine.{reads_back}
use Rattle.line_reading.proofs.Results.{handed_on}
use Rattle.line_reading.proofs.Fields.{field_off, field_on}
use Rattle.line_reading.proofs.read_numbers.Goals as goal

pub returns-in_err-numbers : goal.returns-in_err-numbers
returns-in_err-numbers g c =
    handed_on c.from_residual.result c.from_residual.ensures.1
    (field_off _ _ _ c.loop-i.invariant (omega arith) c.in_err-numbers.ensures)

pub loop-i-preserved : goal.loop-i-preserved
loop-i-preserved g c =
    let number = reads_back w32 c.in_ok-numbers.field-0 (omega arith) in
    rw number (field_on _ _ _ c.loop-i.invariant (omega arith) c.in_ok-numbers.ensures)
