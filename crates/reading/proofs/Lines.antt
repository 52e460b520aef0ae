-- The lines of a sheet: the form of the unit, and no byte more.
use mathlib.Core.Path.{◌≡◌, refl, sym, ap, ap₂}
use mathlib.Core.Bool.{Bool, true, false}
use mathlib.Core.List.{List}
use Prim.Native.Nat.{ℕ, ◌+◌, ◌*◌}
use Rattle.std.specs.Prelude.{Ok, Err}
use Rattle.refusals.specs.Numbers.{first_of, Verdict, Accepted}
use Rattle.refusals.specs.declared.Refusal.{Refusal}
use Rattle.unit.specs.declared.Unit.{Unit}
use Rattle.sheet.specs.Sheet.{side_letters, unit_form, front_size, side_size, taken_verdict, lines_verdict, lines_unit}
use Rattle.line_reading.specs.Gives.{form_read}
use Rattle.line_reading.proofs.Results.{read_off, read_on}
use Rattle.reading.specs.Parts.{lines_read}

-- how many bytes the lines of two sides have
pub lines_take : (long : Bool) (bytes : List ℕ) → front_size + side_size long * 2 ≡ (unit_form long side_letters).size bytes
lines_take true bytes = refl
lines_take false bytes = refl

module _ (long : Bool) (letters bytes : List ℕ) where
  abbrev verdict : Verdict
  verdict = (unit_form long letters).verdict bytes

  abbrev value : Unit
  value = (unit_form long letters).value bytes

  abbrev taken : Verdict
  taken = taken_verdict bytes ((unit_form long letters).size bytes)

  -- a line is refused
  pub lines_off : {e : Refusal} → Err e ≡ form_read (unit_form long letters) bytes → Err e ≡ lines_read long letters bytes
  unfolding lines_verdict lines_unit
  lines_off {e} h = ap (λ (v : Verdict). first_of (first_of v taken) (Ok value)) (sym (read_off verdict value (sym h)))

  module _ {u : Unit} (lines : Ok u ≡ form_read (unit_form long letters) bytes) where
    abbrev on : (verdict ≡ Accepted) × (value ≡ u)
    on = read_on verdict value (sym lines)

    -- bytes are left over
    pub taken_off : {e : Refusal} → Err e ≡ taken → Err e ≡ lines_read long letters bytes
    unfolding lines_verdict lines_unit
    taken_off {e} h = ap₂ (λ (v w : Verdict). first_of (first_of v w) (Ok value)) (sym on.0) h

    -- all is accepted
    pub lines_on : Accepted ≡ taken → Ok u ≡ lines_read long letters bytes
    unfolding lines_verdict lines_unit
    lines_on h = λ i. first_of (first_of (sym on.0 i) (h i)) (Ok (sym on.1 i))
