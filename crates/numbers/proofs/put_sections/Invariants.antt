-- `numbers::put_sections` meets its contract. The loop's invariant: the first b sections are stored.
use Prim.Native.Nat.{◌+◌, ◌*◌}
use lib.ListN.{take}
use Rattle.lists.specs.Lists.{joined}
use Rattle.numbers.specs.Layout.{section_size, section_numbers, PutGives}
use Rattle.numbers.proofs.put_sections.Given as goal

abbrev pub invariant-loop-b : goal.invariant-loop-b
invariant-loop-b l = PutGives l.initial.out l.start (joined section_numbers (take l.b l.fn.sections)) (l.start + section_size * l.b) l.out
