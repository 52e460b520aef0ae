-- Orders to a sheet: what the routines called answer is what the definitions say.
use mathlib.Core.Path.{◌≡◌, refl, sym, ap, ap₂, ◌∙◌}
use mathlib.Core.Bool.{Bool, true, false, cond, ◌&&◌}
use mathlib.Core.List.{List, ◌++◌, append-nil}
use Prim.Native.Nat.{ℕ}
use native.Mathlib.Omega.{arith}
use lib.ListN.{length, drop, drop_of_length-le}
use borrow.Author.Tests.{le-leb}
use Rattle.std.specs.Prelude.{Ok, Err}
use Rattle.refusals.specs.Numbers.{is_accepted, first_of, Verdict}
use Rattle.refusals.specs.declared.Refusal.{Refusal}
use Rattle.refusals.proofs.Laws.{passed, failed, first_accepted, first_both}
use Rattle.bands.specs.House.{house_set}
use Rattle.unit.specs.declared.Unit.{Unit}
use Rattle.unit.specs.Fit.{unit_fits}
use Rattle.unit.proofs.Fitness.{fit_of_test, test_of_fit}
use Rattle.unit.specs.Answered.{Answered, answered}
use Rattle.loading.specs.Loading.{cleared_with}
use Rattle.sheet.specs.Sheet.{side_letters, sheet_size, sheet_verdict, carried_unit, sheet_of}
use Rattle.writing.specs.Written.{writes, filled}
use Rattle.reading.specs.Reading.{sheet_read}
use Rattle.roundtrip.proofs.Holds.{round_trip}
use Rattle.order_lists.specs.declared.DeskOrder.{DeskOrder}
use Rattle.order_lists.specs.Lists.{ordered_all}
use Rattle.order_lists.proofs.Laws.{all_fit}
use Rattle.decisions.specs.Decisions.{opened, desk_ordered, desk_verdict, desk_sheet, HandsOut}

-- ---- the sheet

module _ (bytes : List ℕ) (verdict : Verdict) (u : Unit) (opens : answered verdict u ≡ opened bytes) where
  -- the answer is that of the sheet
  pub opened_verdict : verdict ≡ sheet_verdict side_letters bytes
  unfolding sheet_read
  opened_verdict = ap (λ (a : Answered). a.verdict) opens

  -- accepted, the unit is the one that the sheet carries
  pub opened_accepted : is_accepted verdict ≡ true → (is_accepted (sheet_verdict side_letters bytes) ≡ true) × (u ≡ carried_unit side_letters bytes)
  opened_accepted taken =
      let sheet_taken : is_accepted (sheet_verdict side_letters bytes) ≡ true = ap is_accepted (sym opened_verdict) ∙ taken in
      (sheet_taken, ap (λ (a : Answered). a.unit) (opens ∙ (round_trip side_letters).accepted_reads bytes sheet_taken (cleared_with house_set)))

-- ---- the orders

module _ (bytes : List ℕ) (orders : List DeskOrder) where
  -- the sheet's refusal is the answer, and leaves the buffer as it is
  module _ (refusal : Refusal) (u : Unit) (refused : answered (Err refusal) u ≡ opened bytes) where
    pub sheet_refused : Err refusal ≡ desk_verdict bytes orders
    unfolding desk_verdict
    sheet_refused = rw (sym (opened_verdict bytes (Err refusal) u refused)) refl

    pub sheet_unchanged : (buffer : List ℕ) → buffer ≡ desk_sheet bytes orders buffer
    unfolding desk_sheet desk_verdict
    sheet_unchanged buffer = rw (sym (opened_verdict bytes (Err refusal) u refused)) refl

  module _ (u : Unit) (opens : answered (Ok tt) u ≡ opened bytes) (verdict : Verdict) (u' : Unit) (gives : answered verdict u' ≡ ordered_all u orders) where
    ordered_is : answered verdict u' ≡ desk_ordered bytes orders
    ordered_is = gives ∙ ap (λ (v : Unit). ordered_all v orders) (opened_accepted bytes (Ok tt) u opens refl).1

    -- the answer to the orders is the answer
    pub orders_answered : verdict ≡ desk_verdict bytes orders
    unfolding desk_verdict
    orders_answered = ap (λ (a : Answered). a.verdict) ordered_is ∙ sym (first_accepted (sheet_verdict side_letters bytes) (desk_ordered bytes orders).verdict (opened_accepted bytes (Ok tt) u opens refl).0)

    -- all accepted, the sheet is that of the unit after them
    pub orders_written : is_accepted verdict ≡ true → (buffer : List ℕ) → filled side_letters u' buffer ≡ desk_sheet bytes orders buffer
    unfolding desk_sheet
    orders_written taken buffer =
        ap (λ (a : Answered). filled side_letters a.unit buffer) ordered_is
        ∙ passed (is_accepted (desk_verdict bytes orders)) (filled side_letters (desk_ordered bytes orders).unit buffer) buffer (ap is_accepted (sym orders_answered) ∙ taken)

    -- one refused, the buffer is unchanged
    pub orders_unchanged : is_accepted verdict ≡ false → (buffer : List ℕ) → buffer ≡ desk_sheet bytes orders buffer
    unfolding desk_sheet
    orders_unchanged refused buffer = failed (is_accepted (desk_verdict bytes orders)) (filled side_letters (desk_ordered bytes orders).unit buffer) buffer (ap is_accepted (sym orders_answered) ∙ refused)

-- ---- what goes out

module _ (bytes : List ℕ) (orders : List DeskOrder) (yes : is_accepted (desk_verdict bytes orders) ≡ true) where
  abbrev after : Unit
  after = (desk_ordered bytes orders).unit

  -- the unit after the orders is fit
  after_fits : unit_fits after ≡ true
  unfolding desk_verdict
  after_fits =
      test_of_fit after
      (all_fit (carried_unit side_letters bytes) orders
      (fit_of_test (carried_unit side_letters bytes) ((round_trip side_letters).accepted_fit bytes (carried_unit side_letters bytes) ((round_trip side_letters).accepted_reads bytes (first_both (sheet_verdict side_letters bytes) (desk_ordered bytes orders).verdict yes).0))))

  -- so a buffer of a sheet's size becomes the sheet
  pub hands_out : (room sheet : List ℕ) → length room ≡ sheet_size side_letters → sheet ≡ desk_sheet bytes orders room → HandsOut bytes orders sheet
  unfolding desk_sheet filled writes
  hands_out room sheet size e =
      record {
        accepted = yes;
        sheet_is =
            e
            ∙ sym (passed (is_accepted (desk_verdict bytes orders)) (filled side_letters after room) room yes)
            ∙ ap₂ (λ (a b : Bool). cond (a && b) (sheet_of side_letters after ++ drop (sheet_size side_letters) room) room) (le-leb (sheet_size side_letters) (length room) (omega (arith, size))) after_fits
            ∙ ap (λ (l : List ℕ). sheet_of side_letters after ++ l) (drop_of_length-le room {i = sheet_size side_letters} (omega (arith, size)))
            ∙ append-nil (sheet_of side_letters after);
      }
