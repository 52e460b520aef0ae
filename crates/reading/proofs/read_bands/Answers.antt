-- `reading::read_bands` meets its contract.
use mathlib.Core.Path.{sym}
use native.Mathlib.Omega.{arith}
use lib.ListN.{get_or-replicate}
use Rattle.line_reading.proofs.Results.{handed_on}
use Rattle.bands.specs.Bands.{band_count}
use Rattle.sheet.specs.Lines.{band_letter}
use Rattle.sheet.proofs.Lines.{band_sound}
use Rattle.line_reading.proofs.Forms.{forms_off, forms_on}
use Rattle.reading.proofs.read_bands.Goals as goal

pub returns-in_err-bands : goal.returns-in_err-bands
returns-in_err-bands c =
    handed_on c.from_residual.result c.from_residual.ensures.1
    (forms_off c.loop-b.invariant 0 (omega arith) (sym (get_or-replicate band_count c.loop-b.b band_letter 0 (omega arith))) c.in_err-bands.ensures)

pub loop-b-preserved : goal.loop-b-preserved
loop-b-preserved c =
    forms_on c.loop-b.invariant 0 (omega arith) (sym (get_or-replicate band_count c.loop-b.b band_letter 0 (omega arith))) (band_sound band_letter)
    c.in_ok-bands.ensures (omega arith)
