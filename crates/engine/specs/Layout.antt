-- The flat layout in which the engine holds bands and channels for the length of a block: the one definition of it. Definitions only.
-- Two channels, the sides of a pair, stand as neighbours, each number of the first ahead of that of the second:
--     bands   A A' B B' G G' of each band in turn; both sides have the same numbers
--     pair    y1 y1' y2 y2' gain gain' target target' remainder remainder' of each section in turn, then x1 x1' x2 x2' flag flag'
-- Pairs stand one behind the other.
use Rattle.std.specs.Prelude.{List, [], ◌∷◌, ℕ, zero, suc, ◌+◌, ◌*◌, set, drop, Float}
use Rattle.lists.specs.Lists.{tabulate}
use Rattle.bands.specs.Bands.{band_count, band_size}
use Rattle.bands.specs.declared.Band.{Band}
use Rattle.floats.specs.Whole.{whole_of}
use Rattle.unit.specs.declared.BandSection.{BandSection}
use Rattle.unit.specs.declared.Channel.{Channel}
use Rattle.engine.specs.declared.FloatBand.{FloatBand}
use Rattle.engine.specs.declared.FloatSection.{FloatSection}
use Rattle.engine.specs.declared.Sides.{Sides}
use Rattle.engine.specs.Floats.{float_at, band_in, band_section_in}

-- the sides of a pair
abbrev pub side_count : ℕ
side_count = 2

-- how many floats a band has, and all bands
abbrev pub band_floats : ℕ
band_floats = side_count * band_size

abbrev pub set_floats : ℕ
set_floats = band_floats * band_count

-- how many floats the sections of a band have: y1, y2, gain, target and remainder of both sides
abbrev pub section_floats : ℕ
section_floats = side_count * 5

-- where x1, x2 and the flag of the first side stand, behind the sections, and how many floats a pair has
abbrev pub x1_place : ℕ
x1_place = section_floats * band_count

abbrev pub x2_place : ℕ
x2_place = x1_place + side_count

abbrev pub flag_place : ℕ
flag_place = x2_place + side_count

abbrev pub pair_floats : ℕ
pair_floats = flag_place + side_count

-- where the numbers of one side stand: A of band b, y1 of section b, x1, x2 and the flag. B and G, y2, gain, target and remainder follow at
-- every second place
pub record Side : Type 0 where
  pub band : ℕ → ℕ
  pub section : ℕ → ℕ
  pub x1 : ℕ
  pub x2 : ℕ
  pub flag : ℕ

abbrev pub first_side : Side
first_side = record { band = λ b. band_floats * b; section = λ b. section_floats * b; x1 = x1_place; x2 = x2_place; flag = flag_place }

abbrev pub second_side : Side
second_side =
    record { band = λ b. band_floats * b + 1; section = λ b. section_floats * b + 1; x1 = x1_place + 1; x2 = x2_place + 1; flag = flag_place + 1 }

-- the band and the section whose numbers begin at a place
abbrev pub float_band_at : List Float → ℕ → FloatBand
float_band_at l at = record { alpha = float_at l at; beta = float_at l (at + 2); gamma = float_at l (at + 4) }

abbrev pub float_section_at : List Float → ℕ → FloatSection
float_section_at l at =
    record {
      y1 = float_at l at;
      y2 = float_at l (at + 2);
      gain = record { present = float_at l (at + 4); target = float_at l (at + 6) };
      remainder = float_at l (at + 8);
    }

-- the floats with that section replaced
unfoldable pub put_section : List Float → ℕ → FloatSection → List Float
put_section l at s =
    set (set (set (set (set l at s.y1) (at + 2) s.y2) (at + 4) s.gain.present) (at + 6) s.gain.target) (at + 8) s.remainder

-- two neighbours, and the floats with these replaced
abbrev pub sides_at : List Float → ℕ → Sides Float
sides_at l at = record { first = float_at l at; second = float_at l (at + 1) }

unfoldable pub put_sides : List Float → ℕ → Sides Float → List Float
put_sides l at s = set (set l at s.first) (at + 1) s.second

-- ---- what the floats stand for

module _ (l : List Float) (e : Side) where
  -- the bands of one side
  abbrev pub band_at_side : ℕ → Band
  band_at_side b = band_in (float_band_at l (e.band b))

  abbrev pub bands_at_side : List Band
  bands_at_side = tabulate band_count band_at_side

  -- the channel of one side
  abbrev pub section_at_side : ℕ → BandSection
  section_at_side b = band_section_in (float_section_at l (e.section b))

  abbrev pub channel_at_side : Channel
  channel_at_side =
      record {
        x1 = whole_of (float_at l e.x1);
        x2 = whole_of (float_at l e.x2);
        flag = whole_of (float_at l e.flag);
        sections = tabulate band_count section_at_side;
      }

-- the channels of so many pairs
abbrev pub channels_in : ℕ → List Float → List Channel
channels_in zero l = []
channels_in (suc pairs) l = channel_at_side l first_side ∷ channel_at_side l second_side ∷ channels_in pairs (drop pair_floats l)
