-- `writing::put_bands` meets its contract. The loop's invariant: laid behind the lines before line i, the lines from line i on make the whole.
use native.Mathlib.Omega.{arith}
use lib.ListN.{get_or, get_or-replicate}
use Rattle.bands.specs.Bands.{band_count}
use Rattle.unit.proofs.PastEnd.{zero_band}
use Rattle.forms.proofs.Line.{text_length}
use Rattle.forms.proofs.Texts.{onward_next}
use Rattle.sheet.specs.Lines.{band_letter, band_row}
use Rattle.writing.proofs.put_bands.Goals as goal

pub loop-i-preserved : goal.loop-i-preserved
loop-i-preserved c =
    onward_next c.loop-i.invariant 0 zero_band (omega arith) (omega arith) (get_or-replicate band_count c.loop-i.i band_letter 0 (omega arith)) c.put_band.ensures (omega (arith, text_length band_letter (band_row (get_or c.args.bands c.loop-i.i zero_band))))
