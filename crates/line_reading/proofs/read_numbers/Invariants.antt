-- `line_reading::read_numbers` meets its contract.
use Rattle.line_reading.specs.Gives.{is_admitted}
use Rattle.line_reading.proofs.Fields.{ReadUpTo}
use Rattle.line_reading.proofs.read_numbers.Given as goal

abbrev pub invariant-loop-i : goal.invariant-loop-i
invariant-loop-i g l = ReadUpTo (is_admitted l.range) g.row.N l.bytes l.i l.numbers
