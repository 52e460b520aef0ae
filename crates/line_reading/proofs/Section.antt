-- The fields of an S line: four words, and the remainder or 0.
use mathlib.Core.Path.{◌≡◌, refl, sym, ap, subst, ◌∙◌}
use mathlib.Core.Bool.{Bool}
use mathlib.Core.List.{List, [], ◌∷◌, ◌++◌}
use Prim.Native.Nat.{ℕ, ◌-◌}
use lib.IntN.{ℤ}
use lib.ListN.{length, take, drop}
use lib.Seq.{drop-drop}
use Rattle.std.specs.Prelude.{Ok, Err}
use Rattle.std.proofs.lemmas.List.{take_rest}
use Rattle.refusals.specs.Numbers.{Accepted}
use Rattle.refusals.specs.declared.Refusal.{Refusal}
use Rattle.words.specs.Words.{is_word}
use Rattle.unit.specs.declared.BandSection.{BandSection}
use Rattle.forms.specs.Line.{fields_verdict, field_numbers}
use Rattle.sheet.specs.Lines.{row_at, fifth_range, section_ranges, section_of_row}
use Rattle.line_reading.specs.Gives.{numbers_read, remainder_read}
use Rattle.line_reading.proofs.Results.{read_off, read_on}
use Rattle.line_reading.proofs.Fields.{back_off, both_on}

abbrev pub four_words : List (ℤ → Bool)
four_words = is_word ∷ is_word ∷ is_word ∷ is_word ∷ []

module _ (fifth : Bool) (bytes : List ℕ) where
  -- the bytes behind the letter, and those behind the words
  abbrev behind : List ℕ
  behind = take (length bytes - 1) (drop 1 bytes)

  abbrev last : List ℕ
  last = take (length bytes - 37) (drop 37 bytes)

  last_is : last ≡ drop 36 behind
  last_is = take_rest bytes 37 ∙ sym (ap (drop 36) (take_rest bytes 1) ∙ drop-drop 36 1 bytes)

  -- the number of the fifth field
  abbrev number : List ℕ → ℤ
  number l = row_at (field_numbers (length (fifth_range fifth)) l) 0

  module _ {words : List ℤ} (front : Ok words ≡ numbers_read four_words behind) where
    -- the remainder is refused
    pub remainder_off : {e : Refusal} → Err e ≡ remainder_read fifth last → Err e ≡ numbers_read (section_ranges fifth) behind
    remainder_off h =
        back_off four_words (fifth_range fifth) behind front
        (ap (fields_verdict (fifth_range fifth)) (sym last_is) ∙ read_off (fields_verdict (fifth_range fifth) last) (number last) (sym h))

    -- the section of the words and the remainder
    abbrev of_both : ℤ → BandSection
    of_both r =
        record { y1 = row_at words 0; y2 = row_at words 1; gain = record { present = row_at words 2; target = row_at words 3 }; remainder = r }

    -- it is accepted: the section is that of all numbers
    pub remainder_on : {r : ℤ} → Ok r ≡ remainder_read fifth last
        → (l : List ℤ) × (Ok l ≡ numbers_read (section_ranges fifth) behind) × (of_both r ≡ section_of_row l)
    remainder_on {r} h = (
      words ++ field_numbers (length (fifth_range fifth)) (drop 36 behind),
      both_on four_words (fifth_range fifth) behind front (ap (fields_verdict (fifth_range fifth)) (sym last_is) ∙ on.0),
      ap of_both (sym on.1 ∙ ap number last_is) ∙ apart (field_numbers (length (fifth_range fifth)) (drop 36 behind)),
    )
      where
        on : (fields_verdict (fifth_range fifth) last ≡ Accepted) × (number last ≡ r)
        on = read_on (fields_verdict (fifth_range fifth) last) (number last) (sym h)

        -- the section of a row whose first four numbers are the words
        apart : (l : List ℤ) → of_both (row_at l 0) ≡ section_of_row (words ++ l)
        apart l =
            subst (λ (ws : List ℤ). record { y1 = row_at ws 0; y2 = row_at ws 1; gain = record { present = row_at ws 2; target = row_at ws 3 }; remainder = row_at l 0 } ≡ section_of_row (ws ++ l))
            (read_on (fields_verdict four_words behind) (field_numbers 4 behind) (sym front)).1 refl
