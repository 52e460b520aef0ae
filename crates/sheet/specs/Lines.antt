-- The lines of the strip sheet, each as a form: "V (volume, target)", "C (A, B, G)", "L (x1, x2, flag)", "R as L" and "S (y1, y2, gain, target)",
-- "a fifth field at the end, the remainder". Definitions only, by docs/SPECIFICATION.md, The strip sheet.
use Rattle.refusals.specs.Numbers.{Verdict}
use Rattle.std.specs.Prelude.{Bool, true, cond, List, [], ◌∷◌, ℕ, ℤ, pos, length, get_or}
use Rattle.words.specs.Words.{is_word}
use Rattle.bands.specs.Bands.{band_verdict, band_at}
use Rattle.bands.specs.declared.Band.{Band}
use Rattle.levels.specs.declared.Level.{Level}
use Rattle.unit.specs.declared.BandSection.{BandSection}
use Rattle.unit.specs.declared.Channel.{Channel}
use Rattle.unit.specs.Fit.{is_volume, is_input, is_flag, is_remainder}
use Rattle.forms.specs.Form.{Form, seen_as}
use Rattle.forms.specs.Line.{line_form, alone}

-- number i of a line
abbrev pub row_at : List ℤ → ℕ → ℤ
row_at row i = get_or row i (pos 0)

-- ---- "V (volume, target)"

abbrev pub volume_letter : ℕ
volume_letter = 86

abbrev pub volume_ranges : List (ℤ → Bool)
volume_ranges = is_volume ∷ is_volume ∷ []

abbrev pub volume_row : Level → List ℤ
volume_row v = v.present ∷ v.target ∷ []

abbrev pub volume_of_row : List ℤ → Level
volume_of_row row = record { present = row_at row 0; target = row_at row 1 }

abbrev pub volume_form : Form Level
volume_form = seen_as volume_of_row volume_row (line_form volume_letter volume_ranges alone)

-- ---- "C (A, B, G)": "a C line tests 8 to 10 after its three fields, in place of 14"

abbrev pub band_letter : ℕ
band_letter = 67

-- a number of a C line has no range by itself
abbrev pub any_number : ℤ → Bool
any_number v = true

abbrev pub band_ranges : List (ℤ → Bool)
band_ranges = any_number ∷ any_number ∷ any_number ∷ []

abbrev pub band_row : Band → List ℤ
band_row band = band.alpha ∷ band.beta ∷ band.gamma ∷ []

abbrev pub band_of_row : List ℤ → Band
band_of_row row = band_at row 0

abbrev pub band_joint : List ℤ → Verdict
band_joint row = band_verdict (band_of_row row)

abbrev pub band_form : ℕ → Form Band
band_form letter = seen_as band_of_row band_row (line_form letter band_ranges band_joint)

-- ---- "L (x1, x2, flag)", "R as L": the head of a side

abbrev pub head_ranges : List (ℤ → Bool)
head_ranges = is_input ∷ is_input ∷ is_flag ∷ []

abbrev pub head_row : Channel → List ℤ
head_row c = c.x1 ∷ c.x2 ∷ c.flag ∷ []

abbrev pub head_form : ℕ → Form (List ℤ)
head_form letter = line_form letter head_ranges alone

-- ---- "S (y1, y2, gain, target)", and where the line has "a fifth field at the end, the remainder"

abbrev pub section_letter : ℕ
section_letter = 83

abbrev pub fifth_range : Bool → List (ℤ → Bool)
fifth_range fifth = cond fifth (is_remainder ∷ []) []

abbrev pub section_ranges : Bool → List (ℤ → Bool)
section_ranges fifth = is_word ∷ is_word ∷ is_word ∷ is_word ∷ fifth_range fifth

abbrev pub section_row : Bool → BandSection → List ℤ
section_row fifth s = s.y1 ∷ s.y2 ∷ s.gain.present ∷ s.gain.target ∷ cond fifth (s.remainder ∷ []) []

-- a row of four numbers has the remainder 0
abbrev pub section_of_row : List ℤ → BandSection
section_of_row row =
    record { y1 = row_at row 0; y2 = row_at row 1; gain = record { present = row_at row 2; target = row_at row 3 }; remainder = row_at row 4 }

abbrev pub section_form : Bool → Form BandSection
section_form fifth = seen_as section_of_row (section_row fifth) (line_form section_letter (section_ranges fifth) alone)

-- no line has more fields
abbrev pub row_size : ℕ
row_size = length (section_ranges true)
