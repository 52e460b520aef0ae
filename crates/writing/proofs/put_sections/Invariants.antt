-- `writing::put_sections` meets its contract. The loop's invariant: laid at the place that is reached, the lines from line i on make the whole.
use mathlib.Core.Bool.{true}
use Rattle.forms.proofs.Texts.{Onward}
use Rattle.sheet.specs.Lines.{section_form}
use Rattle.sheet.specs.Sheet.{section_kinds}
use Rattle.writing.proofs.put_sections.Given as goal

abbrev pub invariant-loop-i : goal.invariant-loop-i
invariant-loop-i l = Onward section_form (section_kinds true) l.fn.sections l.initial.out l.at l.out l.next l.i
