-- `line_reading::read_head_numbers` meets its contract: two inputs, and behind accepted ones a flag.
use mathlib.Core.Path.{sym, ap, ap₂, ◌∙◌}
use native.Mathlib.Omega.{arith}
use lib.IntN.{ℤ, pos}
use lib.ListN.{get_or, drop}
use Rattle.line_reading.proofs.Results.{handed_on}
use Rattle.std.proofs.lemmas.List.{take_rest}
use mathlib.Core.List.{List, [], ◌∷◌, ◌++◌}
use Prim.Native.Nat.{ℕ}
use mir.Syntax.{w32}
use Rattle.std.specs.Prelude.{Ok}
use Rattle.integers.proofs.Machine.{reads_back}
use Rattle.forms.specs.Line.{field_numbers}
use Rattle.unit.specs.Fit.{is_input, is_flag}
use Rattle.line_reading.proofs.Results.{read_off, read_on}
use Rattle.line_reading.proofs.Fields.{front_off, back_off, both_on}
use Rattle.line_reading.proofs.read_head_numbers.Goals as goal

pub returns-in_err-inputs : goal.returns-in_err-inputs
returns-in_err-inputs c =
    handed_on c.from_residual.result c.from_residual.ensures.1
    (front_off (is_input ∷ is_input ∷ []) (is_flag ∷ []) c.args.bytes.now c.in_err-inputs.ensures)

pub returns-in_err-flag : goal.returns-in_err-flag
unfolding is_flag
returns-in_err-flag c =
    handed_on c.from_residual-in_err-flag.result c.from_residual-in_err-flag.ensures.1
    (back_off (is_input ∷ is_input ∷ []) (is_flag ∷ []) c.args.bytes.now c.in_ok-inputs.ensures (read_off _ _ (sym (simp take_rest at c.in_err-flag.ensures))))

pub returns : goal.returns
unfolding is_flag
returns c =
    let bytes = c.args.bytes.now in
    let inputs = read_on _ _ (sym c.in_ok-inputs.ensures) in
    let flag = read_on _ _ (sym (simp take_rest at c.in_ok-flag.ensures)) in
    let number = λ (l : List ℤ) (i : ℕ). get_or l i (pos 0) in
    rw (reads_back w32 (number c.in_ok-inputs.inputs 0) (omega arith), reads_back w32 (number c.in_ok-inputs.inputs 1) (omega arith), reads_back w32 (number c.in_ok-flag.flag 0) (omega arith))
    (ap Ok
    (ap₂ (λ (l m : List ℤ). number l 0 ∷ number l 1 ∷ number m 0 ∷ []) (sym inputs.1) (sym flag.1)
    ∙ ap (λ (l : List ℤ). l ++ field_numbers 1 (drop 18 bytes)) inputs.1)
    ∙ both_on (is_input ∷ is_input ∷ []) (is_flag ∷ []) bytes c.in_ok-inputs.ensures flag.0)
