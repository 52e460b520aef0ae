-- `reading::read` meets its contract: the length, and then the lines.
use mathlib.Core.Path.{refl, ap, ◌∙◌}
use Rattle.refusals.specs.Numbers.{Verdict}
use Rattle.unit.specs.Answered.{answered}
use Rattle.line_reading.proofs.Results.{handed_on}
use Rattle.sheet.specs.Sheet.{side_letters}
use Rattle.reading.proofs.Laws.{length_refused, lines_refused, lines_accepted}
use Rattle.reading.proofs.read.Goals as goal

pub returns-then-not-long-bytes : goal.returns-then-not-long-bytes
returns-then-not-long-bytes c = length_refused side_letters c.args.bytes.now c.args.unit.now c.if-not-long-bytes.true

pub returns-in_err-read_lines : goal.returns-in_err-read_lines
returns-in_err-read_lines c =
    ap (λ (v : Verdict). answered v c.args.unit.now) (handed_on c.from_residual.result c.from_residual.ensures.1 refl)
    ∙ lines_refused side_letters c.args.bytes.now c.args.unit.now c.if-not-long-bytes.false c.in_err-read_lines.ensures

pub returns : goal.returns
returns c = lines_accepted side_letters c.args.bytes.now c.args.unit.now c.if-not-long-bytes.false c.in_ok-read_lines.ensures
