-- The laws of a sheet read: the answer for its length, and where it is accepted and where it is refused.
use mathlib.Core.Path.{◌≡◌, sym, ap, ◌∙◌}
use mathlib.Core.Bool.{Bool, true, false, cond, ◌||◌}
use mathlib.Core.List.{List}
use Prim.Native.Nat.{ℕ}
use lib.Dec.{eqb}
use lib.ListN.{length}
use Rattle.std.specs.Prelude.{Ok, Err}
use Rattle.refusals.specs.Numbers.{unless, is_accepted, Verdict, Accepted}
use Rattle.refusals.specs.declared.Refusal.{Refusal}
use Rattle.refusals.specs.declared.Refusal.TheVariants.{SheetLength}
use Rattle.unit.specs.declared.Unit.{Unit}
use Rattle.unit.specs.Answered.{answered}
use Rattle.sheet.specs.Sheet.{short_size, lines_verdict, lines_unit, is_long, sheet_verdict, carried_unit}
use Rattle.line_reading.proofs.Results.{read_off, read_on}
use Rattle.reading.specs.Reading.{sheet_read}
use Rattle.reading.specs.Parts.{lines_read}

module _ (letters bytes : List ℕ) where
  -- the bytes have one of the two lengths
  abbrev pub right_length : Bool
  right_length = is_long letters bytes || eqb (length bytes) (short_size letters)

  abbrev lines : Verdict
  lines = lines_verdict (is_long letters bytes) letters bytes

  abbrev unit : Unit
  unit = lines_unit (is_long letters bytes) letters bytes

  -- the verdict by the length: 11, or what the lines are refused for
  verdict_is : (t : Bool) → right_length ≡ t → sheet_verdict letters bytes ≡ unless t SheetLength lines
  unfolding sheet_verdict
  verdict_is t e = ap (λ (u : Bool). unless u SheetLength lines) e

  module _ (given : Unit) where
    -- the answer by the verdict
    answer_is : (v : Verdict) → sheet_verdict letters bytes ≡ v → answered v (cond (is_accepted v) (carried_unit letters bytes) given) ≡ sheet_read letters bytes given
    unfolding sheet_read
    answer_is v e = ap (λ (w : Verdict). answered w (cond (is_accepted w) (carried_unit letters bytes) given)) (sym e)

    -- "11 neither 1,128 nor 1,200 bytes": "the given unit comes back, unexamined"
    pub length_refused : right_length ≡ false → answered (Err SheetLength) given ≡ sheet_read letters bytes given
    length_refused e = answer_is (Err SheetLength) (verdict_is false e)

    -- a line is refused
    pub lines_refused : right_length ≡ true → {e : Refusal} → Err e ≡ lines_read (is_long letters bytes) letters bytes → answered (Err e) given ≡ sheet_read letters bytes given
    lines_refused right {e} h = answer_is (Err e) (verdict_is true right ∙ read_off lines unit (sym h))

    -- all are accepted
    pub lines_accepted : right_length ≡ true → {u : Unit} → Ok u ≡ lines_read (is_long letters bytes) letters bytes → answered Accepted u ≡ sheet_read letters bytes given
    unfolding carried_unit
    lines_accepted right {u} h =
        let on = read_on lines unit (sym h) in
        ap (answered Accepted) (sym on.1) ∙ answer_is Accepted (verdict_is true right ∙ on.0)
