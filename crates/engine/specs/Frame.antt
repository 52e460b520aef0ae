-- A frame of the two sides of a pair, in floats: what each routine asks and gives. Definitions only.
use Rattle.std.specs.Prelude.{◌≡◌, Bool, cond, not, List, ℕ, zero, suc, ◌+◌, ◌*◌, ◌^◌, ◌≤◌, ◌<◌, ℤ, pos, ◌+ℤ◌, length, Float}
use Rattle.std.specs.Float.{binary64}
use Rattle.std.specs.Float.Ieee.{add, lt}
use Rattle.lists.specs.Lists.{Each}
use Rattle.rounding.specs.Rounding.{limit}
use Rattle.words.specs.Words.{word_size, word_low, word_high, is_word}
use Rattle.bands.specs.Bands.{band_count}
use Rattle.floats.specs.Whole.{float, whole_of}
use Rattle.unit.specs.declared.BandSection.{BandSection}
use Rattle.unit.specs.Frame.{feeds_back, section_work, section_frame, share, channel_frame, exact_mix}
use Rattle.unit.specs.Fit.{BandFit, SectionFit, ChannelFit}
use Rattle.engine.specs.declared.FloatBand.{FloatBand}
use Rattle.engine.specs.declared.FloatLevel.{FloatLevel}
use Rattle.engine.specs.declared.FloatSection.{FloatSection}
use Rattle.engine.specs.declared.Sides.{Sides}
use Rattle.engine.specs.declared.Tally.{Tally}
use Rattle.engine.specs.declared.Turned.{Turned}
use Rattle.engine.specs.Floats.{largest, Carries, WholeFloats, float_band, band_in, float_section, band_section_in}
use Rattle.engine.specs.Layout.{set_floats, pair_floats, band_floats, section_floats, Side, first_side, second_side, float_band_at, float_section_at, put_section, bands_at_side, channel_at_side}

-- ---- limits and levels

-- limiting by a choice for each end
abbrev pub lesser : Float → Float → Float
lesser high v = cond (lt v high) v high

abbrev pub greater : Float → Float → Float
greater low v = cond (lt low v) v low

abbrev pub limited_float : Float → Float → Float → Float
limited_float low high v = greater low (lesser high v)

-- a level whose numbers are floats of whole numbers, of at most 2^23 in size
pub record LevelCarries (level : FloatLevel) : Type 0 where
  pub present_carries : Carries level.present word_size
  pub target_carries : Carries level.target word_size

-- what the test of a limit asks: y is the rounded number limited to a word
pub record LimitAsks (rounded y : Float) : Type 0 where
  pub rounded_carries : Carries rounded largest
  pub y_is : y ≡ float (limit word_low word_high (whole_of rounded))

-- a number that is kept, or another one where the section limits: z is what it rounded to
abbrev pub unless_limited : ℤ → Float → Float → Float
unless_limited z kept other = cond (not (is_word z)) other kept

-- ---- the remainder, where a band feeds it back

-- S, with the remainder that is added to it
abbrev pub increased_by : Bool → Float → Float → Float
increased_by feeds sum remainder = cond feeds (add binary64 remainder sum) sum

-- what is carried on, of what rounding took
abbrev pub carried_by : Bool → ℤ → Float → Float
carried_by feeds z taken = cond feeds (unless_limited z taken (float (pos 0))) (float (pos 0))

-- ---- a section's turn, on d = x - x2

module _ (feeds : Bool) (band : FloatBand) (section : FloatSection) (d : Float) (tally : Tally) where
  -- the section after its turn
  abbrev pub after_turn : BandSection
  after_turn = section_frame feeds (band_in band) (whole_of d) (pos 0) (band_section_in section)

  -- with T as far as it goes, and the flag
  unfoldable pub turned : Turned
  turned =
      record {
        section = float_section after_turn;
        tally =
            record {
              total = float (whole_of tally.total +ℤ share after_turn);
              flag = cond (section_work feeds (band_in band) (whole_of d) (pos 0) (band_section_in section)).limited (float (pos 1)) tally.flag;
            };
      }

-- what a turn asks: T, as far as it goes, is at most 2^52 in size
pub record TurnAsks (band : FloatBand) (section : FloatSection) (d : Float) (tally : Tally) : Type 0 where
  pub band_carries : band ≡ float_band (band_in band)
  pub band_fit : BandFit (band_in band)
  pub section_carries : section ≡ float_section (band_section_in section)
  pub section_fit : SectionFit (band_section_in section)
  pub d_carries : Carries d (2 * word_size)
  pub total_carries : Carries tally.total (2 ^ 52)

-- ---- band b's turn of both sides

module _ (feeds : Bool) (bands l : List Float) (b : ℕ) (d : Sides Float) (tallies : Sides Tally) where
  abbrev pub first_turned : Turned
  first_turned = turned feeds (float_band_at bands (band_floats * b)) (float_section_at l (section_floats * b)) d.first tallies.first

  abbrev pub second_turned : Turned
  second_turned = turned feeds (float_band_at bands (band_floats * b + 1)) (float_section_at l (section_floats * b + 1)) d.second tallies.second

  abbrev pub tallies_after : Sides Tally
  tallies_after = record { first = first_turned.tally; second = second_turned.tally }

  abbrev pub pair_after : List Float
  pair_after = put_section (put_section l (section_floats * b) first_turned.section) (section_floats * b + 1) second_turned.section

pub record TurnPairAsks (bands l : List Float) (b : ℕ) (d : Sides Float) (tallies : Sides Tally) : Type 0 where
  pub below : b < band_count
  pub room : length l ≡ pair_floats
  pub first_turns : TurnAsks (float_band_at bands (band_floats * b)) (float_section_at l (section_floats * b)) d.first tallies.first
  pub second_turns : TurnAsks (float_band_at bands (band_floats * b + 1)) (float_section_at l (section_floats * b + 1)) d.second tallies.second

-- ---- the turns of bands in a row

-- a pair's floats and its tallies, between two turns
pub record Between : Type 0 where
  pub pair : List Float
  pub tallies : Sides Tally

abbrev pub between : List Float → Sides Tally → Between
between l tallies = record { pair = l; tallies = tallies }

module _ (bands : List Float) (d : Sides Float) (from : ℕ) where
  -- after the turns of n bands
  abbrev pub after_turns : ℕ → Between → Between
  after_turns zero s = s
  after_turns (suc n) s =
      between
      (pair_after (feeds_back (from + n)) bands (after_turns n s).pair (from + n) d (after_turns n s).tallies)
      (tallies_after (feeds_back (from + n)) bands (after_turns n s).pair (from + n) d (after_turns n s).tallies)

-- what the turns up to another place ask: these bands all feed back, or none does, and each turn has what it asks
pub record TurnBandsAsks (feeds : Bool) (bands : List Float) (d : Sides Float) (from to : ℕ) (s : Between) : Type 0 where
  pub in_order : from ≤ to
  pub most : to ≤ band_count
  pub alike : (b : ℕ) → from ≤ b → b < to → feeds_back b ≡ feeds
  pub each : (n : ℕ) → from + n < to → TurnPairAsks bands (after_turns bands d from n s).pair (from + n) d (after_turns bands d from n s).tallies

-- ---- a frame of both sides, on their input words

-- what it asks of one side: accepted bands, a fit channel, and an input of at most 2^23 in size
pub record SideAsks (bands l : List Float) (e : Side) (x : Float) : Type 0 where
  pub bands_fit : Each BandFit (bands_at_side bands e)
  pub channel_fit : ChannelFit (channel_at_side l e)
  pub x_carries : Carries x word_size

pub record FrameAsks (bands l : List Float) (x : Sides Float) : Type 0 where
  pub bands_size : length bands ≡ set_floats
  pub bands_whole : WholeFloats bands
  pub size : length l ≡ pair_floats
  pub whole : WholeFloats l
  pub first : SideAsks bands l first_side x.first
  pub second : SideAsks bands l second_side x.second

-- what it gives of one side: the channel after the frame, and T
pub record SideGives (bands l : List Float) (e : Side) (x : Float) (after : List Float) (total : Float) : Type 0 where
  pub channel : channel_at_side after e ≡ channel_frame (bands_at_side bands e) (whole_of x) (channel_at_side l e)
  pub total_is : total ≡ float (exact_mix (channel_frame (bands_at_side bands e) (whole_of x) (channel_at_side l e)))

pub record FrameGives (bands l : List Float) (x : Sides Float) (after : List Float) (totals : Sides Float) : Type 0 where
  pub size : length after ≡ pair_floats
  pub whole : WholeFloats after
  pub first : SideGives bands l first_side x.first after totals.first
  pub second : SideGives bands l second_side x.second after totals.second

-- ---- the output

-- how large T is: 2^23 × x and ten products g × y
abbrev pub total_size : ℕ
total_size = suc band_count * (word_size * word_size)

-- what the output asks of V and T
pub record OutputAsks (volume total : Float) : Type 0 where
  pub volume_carries : Carries volume word_size
  pub total_carries : Carries total total_size
