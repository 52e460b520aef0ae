-- `writing::put_bands` meets its contract. The loop's invariant: laid behind the lines before line i, the lines from line i on make the whole.
use Prim.Native.Nat.{◌+◌, ◌*◌}
use lib.ListN.{length, replicate}
use Rattle.bands.specs.Bands.{band_count}
use Rattle.forms.specs.Line.{line_size}
use Rattle.forms.proofs.Texts.{Onward}
use Rattle.sheet.specs.Lines.{band_letter, band_ranges, band_form}
use Rattle.writing.proofs.put_bands.Given as goal

abbrev pub invariant-loop-i : goal.invariant-loop-i
invariant-loop-i l = Onward band_form (replicate band_count band_letter) l.fn.bands l.initial.out l.at l.out (l.at + line_size (length band_ranges) * l.i) l.i
