-- `reading::read_bands` meets its contract. The loop's invariant: the lines below the bth are read and accepted.
use Rattle.std.proofs.Common.{◌*◌, length, replicate}
use Rattle.bands.specs.Bands.{band_count}
use Rattle.forms.specs.Line.{line_size}
use Rattle.sheet.specs.Lines.{band_letter, band_ranges, band_form}
use Rattle.line_reading.proofs.Forms.{FormsRead}
use Rattle.reading.proofs.read_bands.Given as goal

abbrev pub invariant-loop-b : goal.invariant-loop-b
invariant-loop-b l = FormsRead band_form (replicate band_count band_letter) l.bytes l.bands (line_size (length band_ranges) * l.b) l.b
