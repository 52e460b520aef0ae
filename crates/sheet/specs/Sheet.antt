-- The strip sheet of a unit, over the letters of its sides: one form for its text, its verdict and its unit. Definitions only, by
-- docs/SPECIFICATION.md, The strip sheet.
-- "In order: V (volume, target); ten C (A, B, G); L (x1, x2, flag); ten S (y1, y2, gain, target); R as L; ten S. The S lines of bands 0 to 3 have a fifth
-- field at the end, the remainder." "A sheet of 1,128 bytes is still read, with remainders 0." "The longer one is always written."
use Rattle.std.specs.Prelude.{Bool, true, false, ◌&&◌, ◌||◌, List, [], ◌∷◌, ℕ, ◌+◌, ◌*◌, ◌-◌, eqb, ℤ, length, replicate}
use Rattle.lists.specs.Lists.{tabulate, Each}
use Rattle.refusals.specs.Numbers.{unless, first_of, Verdict, Accepted}
use Rattle.refusals.specs.declared.Refusal.TheVariants.{SheetLength, LineMark}
use Rattle.bands.specs.Bands.{band_count}
use Rattle.bands.specs.declared.Band.{Band}
use Rattle.levels.specs.declared.Level.{Level}
use Rattle.unit.specs.declared.BandSection.{BandSection}
use Rattle.unit.specs.declared.Channel.{Channel}
use Rattle.unit.specs.declared.Unit.{Unit}
use Rattle.unit.specs.Frame.{feedback_count, feeds_back}
use Rattle.unit.specs.Fit.{Plain}
use Rattle.forms.specs.Form.{Form, both, in_turn, seen_as}
use Rattle.forms.specs.Line.{line_size}
use Rattle.sheet.specs.Lines.{row_at, volume_ranges, volume_form, band_letter, band_ranges, band_form, head_ranges, head_row, head_form, section_ranges, section_form}

-- the letters of the sides, left and right: L, R
abbrev pub side_letters : List ℕ
side_letters = 76 ∷ 82 ∷ []

-- ---- "ten C (A, B, G)", "ten S (y1, y2, gain, target)"

abbrev pub bands_form : Form (List Band)
bands_form = in_turn band_form (replicate band_count band_letter)

-- which of a side's S lines have the fifth field: in the longer sheet those of the bands that feed the remainder back, in the short one none
abbrev pub section_kinds : Bool → List Bool
section_kinds long = tabulate band_count (λ (place : ℕ). feeds_back place && long)

abbrev pub sections_form : Bool → Form (List BandSection)
sections_form long = in_turn section_form (section_kinds long)

-- ---- a side: the head with its letter, and ten S lines

abbrev pub SideLines : Type 0
SideLines = List ℤ × List BandSection

abbrev pub side_lines : Channel → SideLines
side_lines c = (head_row c, c.sections)

abbrev pub channel_of_lines : SideLines → Channel
channel_of_lines p = record { x1 = row_at p.0 0; x2 = row_at p.0 1; flag = row_at p.0 2; sections = p.1 }

abbrev pub side_form : Bool → ℕ → Form Channel
side_form long letter = seen_as channel_of_lines side_lines (both (head_form letter) (sections_form long))

-- ---- the unit: V and ten C at the front, and a side for each letter

abbrev pub FrontLines : Type 0
FrontLines = Level × List Band

abbrev pub front_form : Form FrontLines
front_form = both volume_form bands_form

abbrev pub sides_form : Bool → List ℕ → Form (List Channel)
sides_form long letters = in_turn (side_form long) letters

abbrev pub UnitLines : Type 0
UnitLines = FrontLines × List Channel

abbrev pub unit_lines : Unit → UnitLines
unit_lines u = ((u.volume, u.bands), u.channels)

abbrev pub unit_of_lines : UnitLines → Unit
unit_of_lines p = record { volume = p.0.0; bands = p.0.1; channels = p.1 }

abbrev pub unit_form : Bool → List ℕ → Form Unit
unit_form long letters = seen_as unit_of_lines unit_lines (both front_form (sides_form long letters))

-- ---- the sheet

-- how many bytes: the V line and the C lines; a head and its S lines for each letter
abbrev pub front_size : ℕ
front_size = line_size (length volume_ranges) + line_size (length band_ranges) * band_count

abbrev pub sections_size : Bool → ℕ
sections_size long = line_size (length (section_ranges long)) * feedback_count + line_size (length (section_ranges false)) * (band_count - feedback_count)

abbrev pub side_size : Bool → ℕ
side_size long = line_size (length head_ranges) + sections_size long

-- of the longer sheet, and of the short one
abbrev pub sheet_size : List ℕ → ℕ
sheet_size letters = front_size + side_size true * length letters

abbrev pub short_size : List ℕ → ℕ
short_size letters = front_size + side_size false * length letters

-- 12 for bytes that are left over from this place on
abbrev pub taken_verdict : List ℕ → ℕ → Verdict
taken_verdict bytes next = unless (eqb (length bytes) next) LineMark Accepted

-- the first refusal of the lines, and no byte more
unfoldable pub lines_verdict : Bool → List ℕ → List ℕ → Verdict
lines_verdict long letters bytes = first_of ((unit_form long letters).verdict bytes) (taken_verdict bytes ((unit_form long letters).size bytes))

-- the unit that the lines carry
unfoldable pub lines_unit : Bool → List ℕ → List ℕ → Unit
lines_unit long letters bytes = (unit_form long letters).value bytes

-- the longer sheet, by its length
abbrev pub is_long : List ℕ → List ℕ → Bool
is_long letters bytes = eqb (length bytes) (sheet_size letters)

-- "11 neither 1,128 nor 1,200 bytes; then from the first byte on"
unfoldable pub sheet_verdict : List ℕ → List ℕ → Verdict
sheet_verdict letters bytes =
    unless (is_long letters bytes || eqb (length bytes) (short_size letters)) SheetLength (lines_verdict (is_long letters bytes) letters bytes)

-- the unit that a sheet carries
unfoldable pub carried_unit : List ℕ → List ℕ → Unit
carried_unit letters bytes = lines_unit (is_long letters bytes) letters bytes

-- the sheet of a unit: "The longer one is always written"
unfoldable pub sheet_of : List ℕ → Unit → List ℕ
sheet_of letters u = (unit_form true letters).text u

-- the short sheet, which is read and never written, of a unit that has "remainders 0"
unfoldable pub short_sheet_of : List ℕ → Unit → List ℕ
short_sheet_of letters u = (unit_form false letters).text u

abbrev pub PlainSide : Channel → Type 0
PlainSide c = Each Plain c.sections

abbrev pub PlainUnit : Unit → Type 0
PlainUnit u = Each PlainSide u.channels
