-- How many bytes the C lines, the S lines, a side and a sheet have.
use mathlib.Core.Path.{◌≡◌, refl, ◌∙◌}
use mathlib.Core.Bool.{Bool, true, false, ◌&&◌}
use mathlib.Core.List.{List, [], ◌∷◌}
use Prim.Native.Nat.{ℕ, ◌+◌, ◌*◌, ◌≤◌, ◌<◌}
use native.Mathlib.Nat.{mul-suc}
use native.Mathlib.Omega.{arith}
use lib.ListN.{length, get_or, take, replicate, length-append}
use Rattle.lists.specs.Lists.{Each}
use Rattle.lists.proofs.Tabulate.{tabulate-at}
use Rattle.bands.specs.Bands.{band_count}
use Rattle.bands.specs.declared.Band.{Band}
use Rattle.unit.specs.declared.BandSection.{BandSection}
use Rattle.unit.specs.declared.Channel.{Channel}
use Rattle.unit.specs.declared.Unit.{Unit}
use Rattle.unit.specs.Frame.{feeds_back}
use Rattle.unit.specs.Shaped.{TenSections, Shaped}
use Rattle.forms.specs.Line.{line_size}
use Rattle.forms.proofs.Line.{text_length}
use Rattle.forms.proofs.Texts.{size_of, texts_length}
use Rattle.sheet.specs.Lines.{volume_letter, volume_row, volume_form, band_letter, band_ranges, band_row, band_form, head_row, head_form, section_letter, section_ranges, section_row, section_form, row_size}
use Rattle.sheet.specs.Sheet.{bands_form, section_kinds, sections_form, side_form, front_form, sides_form, unit_form, front_size, sections_size, side_size, sheet_size, short_size, sheet_of, short_sheet_of}

-- ten C lines
pub bands_length : (bands : List Band) → length bands ≡ band_count → length (bands_form.text bands) ≡ line_size (length band_ranges) * band_count
bands_length bands e =
    texts_length band_form (λ (k : ℕ). line_size (length band_ranges)) (λ k b. text_length k (band_row b)) (replicate band_count band_letter) bands e

-- an S line
pub section_length : (fifth : Bool) (s : BandSection) → length ((section_form fifth).text s) ≡ line_size (length (section_ranges fifth))
section_length true s = text_length section_letter (section_row true s)
section_length false s = text_length section_letter (section_row false s)

-- of the five numbers of a section an S line has so many
pub few_fields : (fifth : Bool) → length (section_ranges fifth) ≤ row_size
few_fields true = omega arith
few_fields false = omega arith

pub row_front : (fifth : Bool) (s : BandSection) → take (length (section_ranges fifth)) (section_row true s) ≡ section_row fifth s
row_front true s = refl
row_front false s = refl

-- the kind of the S line of band i, and in the longer sheet
pub kind_at : (long : Bool) (i : ℕ) → i < band_count → get_or (section_kinds long) i false ≡ feeds_back i && long
kind_at long i h = tabulate-at band_count (λ (place : ℕ). feeds_back place && long) false i h

pub long_kind_at : (i : ℕ) → i < band_count → get_or (section_kinds true) i false ≡ feeds_back i
long_kind_at i h = kind_at true i h ∙ alone-true (feeds_back i)
  where
    alone-true : (t : Bool) → t && true ≡ t
    alone-true true = refl
    alone-true false = refl

-- ten S lines, in the longer sheet and in the short one
kinds_size : (long : Bool) → size_of (λ (fifth : Bool). line_size (length (section_ranges fifth))) (section_kinds long) ≡ sections_size long
kinds_size true = refl
kinds_size false = refl

pub sections_length : (long : Bool) (ss : List BandSection) → length ss ≡ band_count → length ((sections_form long).text ss) ≡ sections_size long
sections_length long ss e =
    texts_length section_form (λ (fifth : Bool). line_size (length (section_ranges fifth))) section_length (section_kinds long) ss e ∙ kinds_size long

-- a side of ten sections
pub side_length : (long : Bool) (letter : ℕ) (c : Channel) → TenSections c → length ((side_form long letter).text c) ≡ side_size long
side_length long letter c ten =
    length-append ((head_form letter).text (head_row c)) ((sections_form long).text c.sections)
    ∙ omega (arith, text_length letter (head_row c), sections_length long c.sections ten)

-- so many bytes are read of it
pub side_takes : (long : Bool) (letter : ℕ) (bytes : List ℕ) → (side_form long letter).size bytes ≡ side_size long
side_takes true letter bytes = refl
side_takes false letter bytes = refl

-- no side has more than one of the longer sheet
pub few_lines : (long : Bool) → side_size long ≤ side_size true
few_lines true = omega arith
few_lines false = omega arith

-- a side for each letter
sides-length : (long : Bool) (letters : List ℕ) (cs : List Channel) → length cs ≡ length letters → Each TenSections cs → length ((sides_form long letters).text cs) ≡ side_size long * length letters
sides-length long [] [] e s = omega arith
sides-length long [] (c ∷ cs) e s = absurd (omega arith)
sides-length long (k ∷ letters) [] e s = absurd (omega arith)
sides-length long (k ∷ letters) (c ∷ cs) e s =
    length-append ((side_form long k).text c) ((sides_form long letters).text cs)
    ∙ omega (arith, side_length long k c s.0, sides-length long letters cs (omega arith) s.1, mul-suc (side_size long) (length letters))

-- a unit
unit_length : (long : Bool) (letters : List ℕ) (u : Unit) → Shaped (length letters) u → length ((unit_form long letters).text u) ≡ front_size + side_size long * length letters
unit_length long letters u s =
    length-append (front_form.text (u.volume, u.bands)) ((sides_form long letters).text u.channels)
    ∙ omega (
      arith,
      length-append (volume_form.text u.volume) (bands_form.text u.bands),
      text_length volume_letter (volume_row u.volume),
      bands_length u.bands s.bands,
      sides-length long letters u.channels s.channels s.sections,
    )

-- the longer sheet, and the short one
pub sheet_length : (letters : List ℕ) (u : Unit) → Shaped (length letters) u → length (sheet_of letters u) ≡ sheet_size letters
unfolding sheet_of
sheet_length = unit_length true

pub short_length : (letters : List ℕ) (u : Unit) → Shaped (length letters) u → length (short_sheet_of letters u) ≡ short_size letters
unfolding short_sheet_of
short_length = unit_length false
