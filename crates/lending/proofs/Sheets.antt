-- Sheets of lent numbers: what is written, and that the numbers of an accepted sheet are those of the unit that it carries, whatever unit the reader
-- is given.
use mathlib.Core.Path.{◌≡◌, sym, ap, ◌∙◌, subst}
use mathlib.Core.Bool.{Bool, true, false, cond}
use mathlib.Core.List.{List}
use Prim.Native.Nat.{ℕ}
use lib.IntN.{ℤ}
use lib.ListN.{length}
use Rattle.refusals.specs.Numbers.{number_of, is_accepted}
use Rattle.unit.specs.declared.Unit.{Unit}
use Rattle.unit.specs.Fit.{Fit}
use Rattle.unit.proofs.Fitness.{fit_of_test}
use Rattle.sheet.specs.Sheet.{side_letters, sheet_verdict, carried_unit}
use Rattle.writing.specs.Written.{filled_count, filled}
use Rattle.unit.specs.Answered.{Answered}
use Rattle.reading.specs.Reading.{sheet_read}
use Rattle.roundtrip.proofs.Holds.{round_trip}
use Rattle.numbers.specs.Layout.{unit_of, numbers_of}
use Rattle.lending.specs.Layout.{SheetWriteGives, SheetReadGives}

-- a sheet that is written
pub sheet_written : {l : List ℤ} {room : List ℕ} {count : ℕ} {after : List ℕ} → (count ≡ filled_count side_letters (unit_of l) (length room)) × (after ≡ filled side_letters (unit_of l) room) → SheetWriteGives l room count after
sheet_written h = record { count_is = h.0; buffer_is = h.1 }

-- ---- a sheet that is read

module _ (bytes : List ℕ) (l : List ℤ) (given : Unit) (answer : Answered) (read : answer ≡ sheet_read side_letters bytes given) where
  verdict_is : answer.verdict ≡ sheet_verdict side_letters bytes
  unfolding sheet_read
  verdict_is = ap (λ (r : Answered). r.verdict) read

  -- refused, the lent numbers stay
  pub sheet_refused : {number : ℕ} → number ≡ number_of answer.verdict → is_accepted answer.verdict ≡ false → SheetReadGives l bytes number l
  unfolding sheet_read
  sheet_refused n refused =
      record {
        number_is = n ∙ ap number_of verdict_is;
        numbers_are = sym (ap (λ (t : Bool). cond t (numbers_of (sheet_read side_letters bytes (unit_of l)).unit) l) (ap is_accepted (sym verdict_is) ∙ refused));
      }

  module _ (accepted : is_accepted answer.verdict ≡ true) where
    yes : is_accepted (sheet_verdict side_letters bytes) ≡ true
    yes = ap is_accepted (sym verdict_is) ∙ accepted

    -- accepted, whatever unit the reader is given
    carried : (w : Unit) → (sheet_read side_letters bytes w).unit ≡ carried_unit side_letters bytes
    carried w = ap (λ (r : Answered). r.unit) ((round_trip side_letters).accepted_reads bytes yes w)

    unit_is : answer.unit ≡ carried_unit side_letters bytes
    unit_is = ap (λ (r : Answered). r.unit) read ∙ carried given

    -- the unit is fit
    pub carried-fits : Fit answer.unit
    carried-fits =
        subst Fit (sym unit_is)
        (fit_of_test (carried_unit side_letters bytes)
        ((round_trip side_letters).accepted_fit bytes (carried_unit side_letters bytes) ((round_trip side_letters).accepted_reads bytes yes)))

    -- and the numbers are those of the unit
    pub sheet_stored : {number : ℕ} {after : List ℤ} → number ≡ number_of answer.verdict → after ≡ numbers_of answer.unit → SheetReadGives l bytes number after
    unfolding sheet_read
    sheet_stored n stored =
        record {
          number_is = n ∙ ap number_of verdict_is;
          numbers_are =
              stored
              ∙ ap numbers_of (unit_is ∙ sym (carried (unit_of l)))
              ∙ sym (ap (λ (t : Bool). cond t (numbers_of (sheet_read side_letters bytes (unit_of l)).unit) l) yes);
        }
