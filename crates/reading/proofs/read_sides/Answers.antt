-- `reading::read_sides` meets its contract.
use mathlib.Core.Path.{refl, sym, ap, ◌∙◌}
use mathlib.Core.List.{[]}
use Prim.Native.Nat.{ℕ, ◌+◌}
use native.Mathlib.Omega.{arith}
use Rattle.line_reading.proofs.Results.{stored_off}
use Rattle.sheet.proofs.Sides.{side_sound}
use Rattle.sheet.proofs.Sizes.{side_takes}
use Rattle.line_reading.proofs.Forms.{forms_off, forms_on, forms_done}
use Rattle.reading.proofs.read_sides.Goals as goal

pub returns-in_err-read_side : goal.returns-in_err-read_side
returns-in_err-read_side c =
    stored_off c.from_residual.result _ c.from_residual.ensures.1
    (forms_off c.loop-i.invariant 0 (omega arith) refl c.in_err-read_side.ensures)

pub loop-i-preserved : goal.loop-i-preserved
loop-i-preserved c =
    forms_on c.loop-i.invariant 0 (omega arith) refl (side_sound c.args.long _) c.in_ok-read_side.ensures
    (ap (λ (n : ℕ). c.loop-i.next + n) (c.side_lines-next.ensures ∙ sym (side_takes c.args.long 0 [])))

pub returns : goal.returns
returns c = forms_done c.loop-i.invariant (omega arith)
