-- `line_writing::put_fields` meets its contract. The loop's invariant: the first i fields are written.
use mathlib.Core.Path.{◌≡◌}
use lib.ListN.{take}
use lib.Seq.{sets}
use Rattle.lists.specs.Lists.{joined}
use Rattle.fields.specs.Fields.{field}
use Rattle.line_writing.proofs.put_fields.Given as goal

abbrev pub invariant-loop-i : goal.invariant-loop-i
invariant-loop-i l = l.out ≡ sets l.initial.out l.at (joined field (take l.i l.row))
