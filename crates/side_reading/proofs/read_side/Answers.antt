-- `side_reading::read_side` meets its contract: the head, and behind an accepted one the S lines.
use mathlib.Core.Path.{ap, ◌∙◌}
use native.Mathlib.Omega.{arith}
use borrow.Author.Rules.{rules}
use lib.IntN.{pos}
use lib.ListN.{get_or}
use Prim.Native.Nat.{ℕ}
use Rattle.forms.specs.Form.{both}
use Rattle.line_reading.specs.Gives.{form_read}
use Rattle.sheet.proofs.Lines.{head_sound}
use Rattle.line_reading.proofs.Results.{stored_off}
use Rattle.std.proofs.lemmas.List.{take_rest}
use Rattle.sheet.specs.Lines.{head_form}
use Rattle.sheet.specs.Sheet.{side_lines, channel_of_lines, sections_form}
use Rattle.line_reading.proofs.Fields.{widened}
use Rattle.line_reading.proofs.Forms.{front_off, back_off, both_on, seen_off, seen_on, form_room}
use Rattle.side_reading.proofs.read_side.Goals as goal

-- the head's bytes are there
pub slice_bounds-read_sections-start : goal.slice_bounds-read_sections-start
slice_bounds-read_sections-start c =
    let room = form_room (head_form c.args.letter) c.args.bytes.now (head_sound c.args.letter) c.in_ok-head.ensures in search rules

pub slice_bounds-read_sections-count : goal.slice_bounds-read_sections-count
slice_bounds-read_sections-count c = form_room (head_form c.args.letter) c.args.bytes.now (head_sound c.args.letter) c.in_ok-head.ensures

pub returns-in_err-head : goal.returns-in_err-head
returns-in_err-head c =
    stored_off c.from_residual.result _ c.from_residual.ensures.1
    (seen_off channel_of_lines side_lines (both (head_form c.args.letter) (sections_form c.args.long)) c.args.bytes.now
    (front_off (head_form c.args.letter) (sections_form c.args.long) c.args.bytes.now c.in_err-head.ensures))

pub returns-in_err-read_sections : goal.returns-in_err-read_sections
returns-in_err-read_sections c =
    stored_off c.from_residual-in_err-read_sections.result _ c.from_residual-in_err-read_sections.ensures.1
    (seen_off channel_of_lines side_lines (both (head_form c.args.letter) (sections_form c.args.long)) c.args.bytes.now
    (back_off (head_form c.args.letter) (sections_form c.args.long) c.args.bytes.now c.in_ok-head.ensures (c.in_err-read_sections.ensures ∙ ap (form_read (sections_form c.args.long)) (take_rest c.args.bytes.now 29))))

pub returns : goal.returns
returns c =
    let number = λ (i : ℕ). get_or c.in_ok-head.head i (pos 0) in
    rw (widened (number 0) (omega arith), widened (number 1) (omega arith), widened (number 2) (omega arith))
    (seen_on channel_of_lines side_lines (both (head_form c.args.letter) (sections_form c.args.long)) c.args.bytes.now
    (both_on (head_form c.args.letter) (sections_form c.args.long) c.args.bytes.now c.in_ok-head.ensures (c.in_ok-read_sections.ensures ∙ ap (form_read (sections_form c.args.long)) (take_rest c.args.bytes.now 29))))
