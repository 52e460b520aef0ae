-- `reading::read_sides` meets its contract. The loop's invariant: the sides below the ith are read and accepted.
use Rattle.sheet.specs.Sheet.{side_letters, side_form}
use Rattle.line_reading.proofs.Forms.{FormsRead}
use Rattle.reading.proofs.read_sides.Given as goal

abbrev pub invariant-loop-i : goal.invariant-loop-i
invariant-loop-i l = FormsRead (side_form l.long) side_letters l.bytes l.channels l.next l.i
