-- `field_writing::put_columns` meets its contract. The loop's invariant: with the columns of what is left before column i all columns are stored.
use mathlib.Core.Path.{◌≡◌}
use lib.Seq.{sets}
use Rattle.fields.specs.Fields.{last_column, columns}
use Rattle.field_writing.proofs.put_columns.Given as goal

abbrev pub invariant-loop-i : goal.invariant-loop-i
invariant-loop-i l = sets l.out l.at (columns l.i l.left l.owed) ≡ sets l.initial.out l.at (columns last_column l.size l.negative)
