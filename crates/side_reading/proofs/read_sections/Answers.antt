-- `side_reading::read_sections` meets its contract. The loop's invariant: the lines below the bth are read and accepted.
use mathlib.Core.Path.{sym, ap}
use mathlib.Core.Bool.{false}
use Prim.Native.Nat.{ℕ, ◌+◌}
use native.Mathlib.Omega.{arith}
use Rattle.line_reading.proofs.Results.{stored_off}
use Rattle.sheet.proofs.Lines.{section_sound}
use Rattle.sheet.proofs.Sizes.{kind_at}
use Rattle.line_reading.proofs.Forms.{forms_off, forms_on, forms_done}
use Rattle.side_reading.proofs.read_sections.Goals as goal

pub returns-in_err-sections : goal.returns-in_err-sections
returns-in_err-sections c =
    stored_off c.from_residual.result _ c.from_residual.ensures.1
    (forms_off c.loop-b.invariant false (omega arith) (sym (kind_at c.args.long c.loop-b.b (omega arith))) c.in_err-sections.ensures)

pub loop-b-preserved : goal.loop-b-preserved
loop-b-preserved c =
    forms_on c.loop-b.invariant false (omega arith) (sym (kind_at c.args.long c.loop-b.b (omega arith))) (section_sound _) c.in_ok-sections.ensures
    (ap (λ (n : ℕ). c.loop-b.next + n) c.section_line.ensures)

pub returns : goal.returns
returns c = forms_done c.loop-b.invariant (omega arith)
