-- `writing::put_sheet` meets its contract: the V line, the ten C lines and the sides stand one behind the other.
use mathlib.Core.Path.{◌≡◌}
use mathlib.Core.Bool.{true}
use native.Mathlib.Omega.{arith}
use lib.ListN.{length, length-append}
use Rattle.lists.proofs.Stores.{sets_behind}
use Rattle.unit.specs.declared.Unit.{Unit}
use Rattle.forms.specs.Line.{line_size}
use Rattle.forms.proofs.Line.{text_length}
use Rattle.sheet.proofs.Sizes.{bands_length}
use Rattle.sheet.specs.Lines.{volume_letter, volume_ranges, volume_row, volume_form}
use Rattle.sheet.specs.Sheet.{side_letters, bands_form, front_form, sides_form, front_size, sheet_of}
use Rattle.writing.proofs.Typed.{unit_typed}
use Rattle.writing.proofs.put_sheet.Goals as goal

pub returns : goal.returns
unfolding sheet_of
returns c =
    sets_behind c.args.out.now (front_form.text (u.volume, u.bands)) ((sides_form true side_letters).text u.channels) 0 front_size (omega (arith, length-append (volume_form.text u.volume) (bands_form.text u.bands), volume-long, bands_length u.bands (unit_typed u _ c.well_formed.1.0).bands))
    (sets_behind c.args.out.now (volume_form.text u.volume) (bands_form.text u.bands) 0 (line_size (length volume_ranges)) (omega (arith, volume-long)) c.put_volume.ensures c.put_bands.ensures)
    c.put_sides.ensures
  where
    u : Unit
    u = c.args.unit

    volume-long : length (volume_form.text u.volume) ≡ line_size (length volume_ranges)
    volume-long = text_length volume_letter (volume_row u.volume)
