-- `side_reading::read_sections` meets its contract. The loop's invariant: the lines below the bth are read and accepted.
use Rattle.sheet.specs.Lines.{section_form}
use Rattle.sheet.specs.Sheet.{section_kinds}
use Rattle.line_reading.proofs.Forms.{FormsRead}
use Rattle.side_reading.proofs.read_sections.Given as goal

abbrev pub invariant-loop-b : goal.invariant-loop-b
invariant-loop-b l = FormsRead section_form (section_kinds l.long) l.bytes l.sections l.next l.b
