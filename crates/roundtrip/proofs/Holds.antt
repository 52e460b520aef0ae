-- The round trip of the strip sheet holds, over the letters of the sides.
use mathlib.Core.Path.{◌≡◌, refl, sym, ap, ap₂, ◌∙◌, subst}
use mathlib.Core.Bool.{Bool, true, false, cond, ◌&&◌, ◌||◌}
use mathlib.Core.List.{List, [], ◌∷◌, append-nil}
use mathlib.Core.Logic.{◌⊎◌, inl, inr}
use Prim.Native.Nat.{ℕ, ◌≤◌}
use native.Mathlib.Omega.{arith}
use lib.Dec.{eqb}
use lib.ListN.{length}
use lib.Seq.{take_all}
use borrow.Author.Tests.{eqb-true, eq-eqb, ne_eqb, le-leb}
use Rattle.refusals.specs.Numbers.{is_accepted, unless, first_of, Verdict, Accepted}
use Rattle.refusals.specs.declared.Refusal.TheVariants.{SheetLength, LineMark}
use Rattle.refusals.proofs.Laws.{never, unless_accepted, first_both, accepted_only}
use Rattle.unit.specs.declared.Unit.{Unit}
use Rattle.unit.specs.Shaped.{Shaped}
use Rattle.unit.proofs.Fitness.{fit_of_test, test_of_fit}
use Rattle.forms.specs.Form.{Form}
use Rattle.forms.proofs.Sound.{Back, Told}
use Rattle.sheet.specs.Sheet.{unit_form, sheet_size, short_size, taken_verdict, lines_verdict, lines_unit, is_long, sheet_verdict, carried_unit, sheet_of, short_sheet_of, PlainUnit}
use Rattle.sheet.proofs.Sides.{UnitFits, unit_sound, fit_unit, UnitTold, unit_fit}
use Rattle.sheet.proofs.Sizes.{sheet_length, short_length}
use Rattle.writing.specs.Written.{writes, filled_part}
use Rattle.unit.specs.Answered.{Answered}
use Rattle.reading.specs.Reading.{sheet_read}
use Rattle.roundtrip.specs.Claim.{HasSheet, ReadsAs, RoundTrip}

-- ---- the form that bytes are read by, which their length says

abbrev read_form : List ℕ → List ℕ → Form Unit
read_form letters bytes = unit_form (is_long letters bytes) letters

-- of the longer sheet
long_form : (letters bytes : List ℕ) → length bytes ≡ sheet_size letters → read_form letters bytes ≡ unit_form true letters
long_form letters bytes e = ap (λ (t : Bool). unit_form t letters) (eq-eqb (length bytes) (sheet_size letters) e)

-- of the short one; with no sides the two are one
short_form : (letters bytes : List ℕ) → length bytes ≡ short_size letters → read_form letters bytes ≡ unit_form false letters
short_form [] bytes e = refl
short_form (k ∷ letters) bytes e =
    ap (λ (t : Bool). unit_form t (k ∷ letters)) (ne_eqb (length bytes) (sheet_size (k ∷ letters)) (λ h. omega (arith, e, h)))

module _ (letters : List ℕ) where
  -- the length is one of the two
  abbrev right_length : List ℕ → Bool
  right_length bytes = is_long letters bytes || eqb (length bytes) (short_size letters)

  -- an accepted sheet reads as the unit that it carries
  accepted_reads : (bytes : List ℕ) → is_accepted (sheet_verdict letters bytes) ≡ true → ReadsAs letters bytes (carried_unit letters bytes)
  unfolding sheet_read
  accepted_reads bytes e given = λ i.
      record { verdict = accepted_only (sheet_verdict letters bytes) e i; unit = cond (e i) (carried_unit letters bytes) given }

  -- ---- a fit unit's sheet

  -- with room for it, it is the part that is handed back
  pub part_is_sheet : (u : Unit) (room : ℕ) → HasSheet u → sheet_size letters ≤ room → filled_part letters u room ≡ sheet_of letters u
  unfolding filled_part writes
  part_is_sheet u room has h = ap₂ (λ (a b : Bool). cond (a && b) (sheet_of letters u) []) (le-leb (sheet_size letters) room h) has

  module _ (u : Unit) (s : Shaped (length letters) u) (has : HasSheet u) where
    -- bytes that a form reads as the unit, to the last byte, are a sheet of it
    module _ (bytes : List ℕ) (right : right_length bytes ≡ true) (form : Form Unit) (form-is : read_form letters bytes ≡ form) (back : Back form u bytes) (all : form.text u ≡ bytes) where
      accepted : is_accepted (sheet_verdict letters bytes) ≡ true
      unfolding sheet_verdict lines_verdict
      accepted =
          ap is_accepted
          (ap₂ (λ (t : Bool) (f : Form Unit). unless t SheetLength (first_of (f.verdict bytes) (taken_verdict bytes (f.size bytes)))) right form-is
          ∙ ap₂ (λ (v : Verdict) (t : Bool). first_of v (unless t LineMark Accepted)) back.verdict
          (eq-eqb (length bytes) (form.size bytes) (ap length (sym all) ∙ sym back.size)))

      carried_is : carried_unit letters bytes ≡ u
      unfolding carried_unit lines_unit
      carried_is = ap (λ (f : Form Unit). f.value bytes) form-is ∙ back.value

      form_reads : ReadsAs letters bytes u
      form_reads = subst (ReadsAs letters bytes) carried_is (accepted_reads bytes accepted)

    -- the lines of the longer sheet, and of the short one, give the unit
    lines_back : (long : Bool) → (long ≡ false → PlainUnit u) → Back (unit_form long letters) u ((unit_form long letters).text u)
    lines_back long plain =
        subst (Back (unit_form long letters) u) (append-nil ((unit_form long letters).text u))
        ((unit_sound long letters).back u [] (fit_unit long letters u s (fit_of_test u has) plain))

    sheet_reads : ReadsAs letters (sheet_of letters u) u
    unfolding sheet_of
    sheet_reads =
        form_reads (sheet_of letters u) (ap (λ (t : Bool). t || eqb (length (sheet_of letters u)) (short_size letters)) (eq-eqb (length (sheet_of letters u)) (sheet_size letters) size))
        (unit_form true letters) (long_form letters (sheet_of letters u) size) (lines_back true (λ e. never true e refl)) refl
      where
        size : length (sheet_of letters u) ≡ sheet_size letters
        size = sheet_length letters u s

    short_reads : PlainUnit u → ReadsAs letters (short_sheet_of letters u) u
    unfolding short_sheet_of
    short_reads plain =
        form_reads (short_sheet_of letters u) (either (is_long letters (short_sheet_of letters u)) (eq-eqb (length (short_sheet_of letters u)) (short_size letters) size))
        (unit_form false letters) (short_form letters (short_sheet_of letters u) size) (lines_back false (λ e. plain)) refl
      where
        size : length (short_sheet_of letters u) ≡ short_size letters
        size = short_length letters u s

        either : (a : Bool) {b : Bool} → b ≡ true → a || b ≡ true
        either true e = refl
        either false e = e

    part_reads : (room : ℕ) → sheet_size letters ≤ room → ReadsAs letters (filled_part letters u room) u
    part_reads room h = subst (λ (bytes : List ℕ). ReadsAs letters bytes u) (sym (part_is_sheet u room has h)) sheet_reads

  -- ---- an accepted sheet

  -- it reads as one unit
  one_unit : (bytes : List ℕ) (u w : Unit) → ReadsAs letters bytes u → ReadsAs letters bytes w → u ≡ w
  one_unit bytes u w p q = ap (λ (r : Answered). r.unit) (sym (p u) ∙ q u)

  module _ (bytes : List ℕ) (u : Unit) (reads : ReadsAs letters bytes u) where
    verdict_accepted : is_accepted (sheet_verdict letters bytes) ≡ true
    unfolding sheet_read
    verdict_accepted = ap (λ (r : Answered). is_accepted r.verdict) (reads u)

    carried_unit_lem : carried_unit letters bytes ≡ u
    carried_unit_lem = one_unit bytes (carried_unit letters bytes) u (accepted_reads bytes verdict_accepted) reads

    -- the length is right, and so are the lines
    length_and_lines : (right_length bytes ≡ true) × (is_accepted (lines_verdict (is_long letters bytes) letters bytes) ≡ true)
    unfolding sheet_verdict
    length_and_lines =
        unless_accepted (right_length bytes) SheetLength (lines_verdict (is_long letters bytes) letters bytes) verdict_accepted

    accepted_length : (length bytes ≡ sheet_size letters) ⊎ (length bytes ≡ short_size letters)
    accepted_length = go (is_long letters bytes) refl length_and_lines.0
      where
        go : (t : Bool) → is_long letters bytes ≡ t → t || eqb (length bytes) (short_size letters) ≡ true → (length bytes ≡ sheet_size letters) ⊎ (length bytes ≡ short_size letters)
        go true e h = inl (eqb-true (length bytes) (sheet_size letters) e)
        go false e h = inr (eqb-true (length bytes) (short_size letters) h)

    -- the lines are accepted, and no byte is left over
    lines_and_end : (is_accepted ((read_form letters bytes).verdict bytes) ≡ true) × (is_accepted (taken_verdict bytes ((read_form letters bytes).size bytes)) ≡ true)
    unfolding lines_verdict
    lines_and_end =
        first_both ((read_form letters bytes).verdict bytes) (taken_verdict bytes ((read_form letters bytes).size bytes)) length_and_lines.1

    -- by the form that the bytes are read by
    module _ (long : Bool) (form-is : read_form letters bytes ≡ unit_form long letters) where
      value_is : (unit_form long letters).value bytes ≡ u
      unfolding carried_unit lines_unit
      value_is = ap (λ (f : Form Unit). f.value bytes) (sym form-is) ∙ carried_unit_lem

      -- the unit fits, and written again it is the bytes that the lines take
      told : Told (unit_form long letters) (UnitFits long letters) bytes
      told = (unit_sound long letters).told bytes (ap (λ (f : Form Unit). is_accepted (f.verdict bytes)) (sym form-is) ∙ lines_and_end.0)

      -- which are all
      all_taken : length bytes ≡ (unit_form long letters).size bytes
      all_taken =
          eqb-true (length bytes) ((read_form letters bytes).size bytes)
          (unless_accepted (eqb (length bytes) ((read_form letters bytes).size bytes)) LineMark Accepted lines_and_end.1).0
          ∙ ap (λ (f : Form Unit). f.size bytes) form-is

      unit_told : UnitTold long letters u
      unit_told = unit_fit long letters u (subst (UnitFits long letters) value_is told.fits)

      text_again : (unit_form long letters).text u ≡ bytes
      text_again =
          ap (unit_form long letters).text (sym value_is) ∙ told.again ∙ take_all ((unit_form long letters).size bytes) bytes (omega (arith, all_taken))

    accepted_told : UnitTold (is_long letters bytes) letters u
    accepted_told = unit_told (is_long letters bytes) refl

    accepted_fit : HasSheet u
    accepted_fit = test_of_fit u accepted_told.fit

    written_again : length bytes ≡ sheet_size letters → sheet_of letters u ≡ bytes
    unfolding sheet_of
    written_again e = text_again true (long_form letters bytes e)

    part_again : (room : ℕ) → length bytes ≡ sheet_size letters → sheet_size letters ≤ room → filled_part letters u room ≡ bytes
    part_again room e h = part_is_sheet u room accepted_fit h ∙ written_again e

    short_again : length bytes ≡ short_size letters → (short_sheet_of letters u ≡ bytes) × PlainUnit u
    unfolding short_sheet_of
    short_again e =
        (text_again false (short_form letters bytes e), (unit_told false (short_form letters bytes e)).plain refl)

  -- the claim
  pub round_trip : RoundTrip letters
  round_trip =
      record {
        length_is = sheet_length letters;
        stereo_size = refl;
        reads_back = sheet_reads;
        part_reads_back = λ u room s has h. part_reads u s has room h;
        accepted_reads = accepted_reads;
        accepted_shaped = λ bytes u reads. (accepted_told bytes u reads).shaped;
        accepted_fit = accepted_fit;
        accepted_length = accepted_length;
        written_again = written_again;
        part_again = λ bytes u room reads e h. part_again bytes u reads room e h;
        short_again = short_again;
        short_reads = λ u s has plain given. short_reads u s has plain given ∙ sym (sheet_reads u s has given);
        short_length_is = short_length letters;
        short_stereo_size = refl;
        same_unit = λ u w s t p q e.
            one_unit (sheet_of letters w) u w (subst (λ (bytes : List ℕ). ReadsAs letters bytes u) e (sheet_reads u s p)) (sheet_reads w t q);
        same_sheet = λ u w e. ap (sheet_of letters) e;
        carried = λ u s has. record { sheet = sheet_of letters u; reads = sheet_reads u s has };
        carried_fit = λ u c. accepted_fit c.sheet u c.reads;
      }
