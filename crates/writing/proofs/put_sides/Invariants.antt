-- `writing::put_sides` meets its contract. The loop's invariant: laid at the place that is reached, the sides from side i on make the whole.
use mathlib.Core.Path.{◌≡◌}
use mathlib.Core.Bool.{true}
use Prim.Native.Nat.{◌+◌, ◌*◌}
use Rattle.forms.proofs.Texts.{Onward}
use Rattle.sheet.specs.Sheet.{side_form, side_size}
use Rattle.writing.proofs.put_sides.Given as goal

abbrev pub invariant-loop-i : goal.invariant-loop-i
invariant-loop-i l = (l.next ≡ l.at + side_size true * l.i) × Onward (side_form true) l.letters l.fn.channels l.initial.out l.at l.out l.next l.i
