-- `reading::read_lines` meets its contract: the V line and the C lines, the sides behind them, and the end of the bytes.
use mathlib.Core.Path.{ap, ◌∙◌}
use Prim.Native.Nat.{ℕ, ◌+◌, ◌*◌}
use borrow.Author.Rules.{rules}
use Rattle.line_reading.proofs.Results.{stored_off}
use Rattle.std.proofs.lemmas.List.{take_rest}
use Rattle.forms.specs.Form.{both}
use Rattle.sheet.specs.Lines.{volume_form}
use Rattle.sheet.specs.Sheet.{side_letters, bands_form, front_form, sides_form, unit_of_lines, unit_lines, front_size, taken_verdict}
use Rattle.sheet.proofs.Lines.{volume_sound}
use Rattle.sheet.proofs.Sides.{front_sound}
use Rattle.line_reading.specs.Gives.{form_read}
use Rattle.line_reading.proofs.Forms.{front_off, back_off, both_on, seen_off, seen_on, form_room}
use Rattle.reading.proofs.Lines.{lines_take, lines_off, taken_off, lines_on}
use Rattle.reading.proofs.read_lines.Goals as goal

pub returns-in_err-volume : goal.returns-in_err-volume
returns-in_err-volume c =
    stored_off c.from_residual.result _ c.from_residual.ensures.1
    (lines_off c.args.long side_letters c.args.bytes.now (seen_off unit_of_lines unit_lines (both front_form (sides_form c.args.long side_letters)) c.args.bytes.now
    (front_off front_form (sides_form c.args.long side_letters) c.args.bytes.now (front_off volume_form bands_form c.args.bytes.now c.in_err-volume.ensures))))

pub slice_bounds-read_bands-start : goal.slice_bounds-read_bands-start
slice_bounds-read_bands-start c =
    let room = form_room volume_form c.args.bytes.now volume_sound c.in_ok-volume.ensures in search rules

pub slice_bounds-read_bands-count : goal.slice_bounds-read_bands-count
slice_bounds-read_bands-count c = form_room volume_form c.args.bytes.now volume_sound c.in_ok-volume.ensures

pub returns-in_err-bands : goal.returns-in_err-bands
returns-in_err-bands c =
    stored_off c.from_residual-in_err-bands.result _ c.from_residual-in_err-bands.ensures.1
    (lines_off c.args.long side_letters c.args.bytes.now (seen_off unit_of_lines unit_lines (both front_form (sides_form c.args.long side_letters)) c.args.bytes.now
    (front_off front_form (sides_form c.args.long side_letters) c.args.bytes.now (back_off volume_form bands_form c.args.bytes.now c.in_ok-volume.ensures
    (c.in_err-bands.ensures ∙ ap (form_read bands_form) (take_rest c.args.bytes.now 20))))))

pub slice_bounds-read_sides-start : goal.slice_bounds-read_sides-start
slice_bounds-read_sides-start c =
    let room =
    form_room front_form c.args.bytes.now front_sound
    (both_on volume_form bands_form c.args.bytes.now c.in_ok-volume.ensures
    (c.in_ok-bands.ensures ∙ ap (form_read bands_form) (take_rest c.args.bytes.now 20))) in
    search rules

pub slice_bounds-read_sides-count : goal.slice_bounds-read_sides-count
slice_bounds-read_sides-count c =
    form_room front_form c.args.bytes.now front_sound
    (both_on volume_form bands_form c.args.bytes.now c.in_ok-volume.ensures
    (c.in_ok-bands.ensures ∙ ap (form_read bands_form) (take_rest c.args.bytes.now 20)))

pub returns-in_err-read_sides : goal.returns-in_err-read_sides
returns-in_err-read_sides c =
    stored_off c.from_residual-in_err-read_sides.result _ c.from_residual-in_err-read_sides.ensures.1
    (lines_off c.args.long side_letters c.args.bytes.now (seen_off unit_of_lines unit_lines (both front_form (sides_form c.args.long side_letters)) c.args.bytes.now
    (back_off front_form (sides_form c.args.long side_letters) c.args.bytes.now (both_on volume_form bands_form c.args.bytes.now c.in_ok-volume.ensures
    (c.in_ok-bands.ensures ∙ ap (form_read bands_form) (take_rest c.args.bytes.now 20)))
    (c.in_err-read_sides.ensures ∙ ap (form_read (sides_form c.args.long side_letters)) (take_rest c.args.bytes.now front_size)))))

pub returns-in_err-check_taken : goal.returns-in_err-check_taken
returns-in_err-check_taken c =
    stored_off c.from_residual-in_err-check_taken.result _ c.from_residual-in_err-check_taken.ensures.1
    (taken_off c.args.long side_letters c.args.bytes.now (seen_on unit_of_lines unit_lines (both front_form (sides_form c.args.long side_letters)) c.args.bytes.now
    (both_on front_form (sides_form c.args.long side_letters) c.args.bytes.now (both_on volume_form bands_form c.args.bytes.now c.in_ok-volume.ensures
    (c.in_ok-bands.ensures ∙ ap (form_read bands_form) (take_rest c.args.bytes.now 20)))
    (c.in_ok-read_sides.ensures ∙ ap (form_read (sides_form c.args.long side_letters)) (take_rest c.args.bytes.now front_size))))
    (c.in_err-check_taken.ensures ∙ ap (taken_verdict c.args.bytes.now) (ap (λ (n : ℕ). front_size + n * 2) c.side_lines.ensures ∙ lines_take c.args.long c.args.bytes.now)))

pub returns : goal.returns
returns c =
    lines_on c.args.long side_letters c.args.bytes.now (seen_on unit_of_lines unit_lines (both front_form (sides_form c.args.long side_letters)) c.args.bytes.now
    (both_on front_form (sides_form c.args.long side_letters) c.args.bytes.now (both_on volume_form bands_form c.args.bytes.now c.in_ok-volume.ensures
    (c.in_ok-bands.ensures ∙ ap (form_read bands_form) (take_rest c.args.bytes.now 20)))
    (c.in_ok-read_sides.ensures ∙ ap (form_read (sides_form c.args.long side_letters)) (take_rest c.args.bytes.now front_size))))
    (c.in_ok-check_taken.ensures ∙ ap (taken_verdict c.args.bytes.now) (ap (λ (n : ℕ). front_size + n * 2) c.side_lines.ensures ∙ lines_take c.args.long c.args.bytes.now))
