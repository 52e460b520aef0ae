-- Whole numbers as f64, in which the engine works. Definitions only.
use Rattle.std.specs.Prelude.{◌≡◌, List, ℕ, ◌^◌, ◌≤◌, ◌<◌, nat_abs, length, get_or, Float}
use Rattle.std.specs.Float.{nan, binary64}
use Rattle.std.specs.Float.Ieee.{prec}
use Rattle.floats.specs.Whole.{float, whole_of}
use Rattle.bands.specs.Bands.{band_of}
use Rattle.bands.specs.declared.Band.{Band}
use Rattle.levels.specs.declared.Level.{Level}
use Rattle.unit.specs.declared.BandSection.{BandSection}
use Rattle.engine.specs.declared.FloatBand.{FloatBand}
use Rattle.engine.specs.declared.FloatLevel.{FloatLevel}
use Rattle.engine.specs.declared.FloatSection.{FloatSection}

-- up to 2^53 every whole number is an f64
abbrev pub largest : ℕ
largest = 2 ^ prec binary64

-- x is the float of a whole number of at most so much in size
pub record Carries (x : Float) (most : ℕ) : Type 0 where
  pub whole : x ≡ float (whole_of x)
  pub small : nat_abs (whole_of x) ≤ most

-- entry k of a list of floats
abbrev pub float_at : List Float → ℕ → Float
float_at l k = get_or l k nan

-- every entry is the float of a whole number
abbrev pub WholeFloats : List Float → Type 0
WholeFloats l = (k : ℕ) → k < length l → float_at l k ≡ float (whole_of (float_at l k))

-- ---- a band, a level and a section of whole numbers as floats, and the ones that floats stand for

abbrev pub float_band : Band → FloatBand
float_band band = record { alpha = float band.alpha; beta = float band.beta; gamma = float band.gamma }

abbrev pub band_in : FloatBand → Band
band_in band = band_of (whole_of band.alpha) (whole_of band.beta) (whole_of band.gamma)

abbrev pub float_level : Level → FloatLevel
float_level level = record { present = float level.present; target = float level.target }

abbrev pub level_in : FloatLevel → Level
level_in level = record { present = whole_of level.present; target = whole_of level.target }

abbrev pub float_section : BandSection → FloatSection
float_section s = record { y1 = float s.y1; y2 = float s.y2; gain = float_level s.gain; remainder = float s.remainder }

abbrev pub band_section_in : FloatSection → BandSection
band_section_in s = record { y1 = whole_of s.y1; y2 = whole_of s.y2; gain = level_in s.gain; remainder = whole_of s.remainder }
